-- The words of literals as text, in names.
use Rattle.std.specs.Prelude.{Bool, true, false, cond, List, [], ◌∷◌, ◌++◌, ◌≡◌, ℕ, zero, suc, ◌%◌, ◌≤◌, eqb, length, get_or}
use Rattle.words.specs.Fields.{kind_of, number_of, symbol_of, arity_of, negative_of}
use Rattle.text.specs.Put.{Put}
use Rattle.text.specs.Quoted.{bytes}
use Rattle.text.specs.Digits.{decimal_text}
use Rattle.names.specs.Numbers.{Name}
use Rattle.names.specs.Noting.{names_at}
use Rattle.tptp.specs.Memory.{inner_of}
use Rattle.naming.specs.Index.{function_places, predicate_places}
use Rattle.naming.specs.declared.show.Reached.{Reached}

-- the names in which words are shown, each by its number
pub record Names : Type 0 where
  pub functions : List Name
  pub predicates : List Name
  pub variables : List Name

-- a variable that has no name is shown as `X` and its number
abbrev pub or_numbered : ℕ → Name → List ℕ
or_numbered n [] = bytes "X" ++ decimal_text n
or_numbered n (c ∷ w) = c ∷ w

-- what stands before a literal: nothing before the first, `or` on a new line before the first of a disjunct, else `&`
unfoldable pub joint_text : ℕ → ℕ → List ℕ
joint_text atoms zero = []
joint_text zero (suc before) = bytes " & "
joint_text (suc more) (suc before) = cond (eqb (suc before % suc more) 0) (bytes "\nor ") (bytes " & ")

unfoldable pub sign_text : Bool → List ℕ
sign_text true = bytes "~ "
sign_text false = []

-- `lists` tells of each list of arguments that is being written, the innermost first, how many are still to come after the present one.
-- After a whole term comes a comma where arguments are still to come, else the parenthesis, and the same again.
unfoldable pub closing : List ℕ → List ℕ
closing [] = []
closing (zero ∷ lists) = bytes ")" ++ closing lists
closing (suc more ∷ lists) = bytes ","

unfoldable pub closed : List ℕ → List ℕ
closed [] = []
closed (zero ∷ lists) = closed lists
closed (suc more ∷ lists) = more ∷ lists

-- after a symbol comes the parenthesis before its arguments; a symbol without arguments is a whole term
unfoldable pub opening : ℕ → List ℕ → List ℕ
opening zero lists = closing lists
opening (suc more) lists = bytes "("

unfoldable pub opened : ℕ → List ℕ → List ℕ
opened zero lists = closed lists
opened (suc more) lists = more ∷ lists

-- a word by its kind: a variable, a function or constant, a literal
unfoldable pub shown_by : Names → ℕ → ℕ → List ℕ → ℕ → (kind : ℕ) → (ℕ → List ℕ → List ℕ) → List ℕ
shown_by names atoms before lists w zero rest =
    or_numbered (number_of w) (get_or names.variables (number_of w) []) ++ (closing lists ++ rest before (closed lists))
shown_by names atoms before lists w (suc zero) rest =
    get_or names.functions (symbol_of w) [] ++ (opening (arity_of w) lists ++ rest before (opened (arity_of w) lists))
shown_by names atoms before lists w (suc (suc kind)) rest =
    joint_text atoms before ++ sign_text (negative_of w) ++ get_or names.predicates (symbol_of w) []
    ++ (opening (arity_of w) [] ++ rest (suc before) (opened (arity_of w) []))

-- words from left to right, after so many literals
unfoldable pub shown : Names → ℕ → ℕ → List ℕ → List ℕ → List ℕ
shown names atoms before lists [] = []
shown names atoms before lists (w ∷ ws) =
    shown_by names atoms before lists w (kind_of w) (λ b o. shown names atoms b o ws)

-- the names by an index and the places of variables
abbrev pub names_in : List ℕ → List ℕ → List ℕ → Names
names_in text index variables = record {
  functions = names_at text (function_places index);
  predicates = names_at text (predicate_places index);
  variables = names_at text variables;
}

abbrev pub variable_text : List ℕ → List ℕ → ℕ → List ℕ
variable_text text variables number = or_numbered number (get_or (names_at text variables) number [])

-- Machinery: what was written of the lists of arguments, which stand in memory with the innermost last.
abbrev pub open_of : List ℕ → ℕ → List ℕ
open_of left depth = inner_of left depth

pub record Written (text lists left : List ℕ) (depth : ℕ) (out : List ℕ) (from : ℕ) (left' out' : List ℕ) (r : Reached) : Type 0 where
  pub put : Put out from text out' r.byte
  pub open_now : open_of left' r.depth ≡ lists
  pub shallow : r.depth ≤ suc depth
  pub long : length left' ≡ length left

abbrev pub begun : List ℕ → List ℕ → ℕ → ℕ → ℕ → List ℕ
begun text index atoms before w =
    joint_text atoms before ++ sign_text (negative_of w) ++ get_or (names_at text (predicate_places index)) (symbol_of w) []

-- The words of each literal that stands in words: from its own word to before the next literal's.
unfoldable pub until_literal : List ℕ → List ℕ
until_literal [] = []
until_literal (w ∷ ws) = cond (eqb (kind_of w) 2) [] (w ∷ until_literal ws)

unfoldable pub literal_parts : List ℕ → List (List ℕ)
literal_parts [] = []
literal_parts (w ∷ ws) = cond (eqb (kind_of w) 2) ((w ∷ until_literal ws) ∷ literal_parts ws) (literal_parts ws)

abbrev pub literal_part : List ℕ → ℕ → List ℕ
literal_part own number = get_or (literal_parts own) number []
