-- What a literal's variables are bound to, as it is shown. The words come in slots of 66, 7 for each copy: up to 65 words, and how many they are
-- (bound_literals/specs/Bound). 64 are shown, and 120 bytes; what is longer is cut, with a mark. A variable that is free is `X` and a number, the same
-- number wherever it stands.
use Rattle.std.specs.Prelude.{Bool, true, false, cond, List, [], ◌∷◌, ◌++◌, ℕ, zero, suc, ◌+◌, ◌*◌, min, eqb, ltb, take, drop, get_or}
use Rattle.words.specs.Fields.{kind_of}
use Rattle.words.specs.Steps.{step_of}
use Rattle.words.specs.declared.Step.{Step}
use Rattle.words.specs.declared.Step.TheVariants.{Reduction, Extension, Restart, Malformed}
use Rattle.text.specs.Quoted.{bytes}
use Rattle.naming.specs.Shown.{names_in, shown, literal_part}
use Rattle.leaves.specs.Shown.{Source, clause_in, cut_to}

-- the number of the copy that the step of this number hung: each extension makes one, and the start's is 0
unfoldable pub copies_by : Step → ℕ
copies_by (Reduction height) = 0
copies_by (Extension i j) = 1
copies_by Restart = 0
copies_by Malformed = 0

unfoldable pub copy_number : List ℕ → ℕ → ℕ
copy_number steps zero = 0
copy_number steps (suc done) = copy_number steps done + copies_by (step_of (get_or steps done 0))

-- where a literal's slot begins, how many words it holds, and those that are shown
abbrev pub slot_at : ℕ → ℕ → ℕ
slot_at copy literal = (copy * 7 + literal) * 66

abbrev pub count_at : List ℕ → ℕ → ℕ → ℕ
count_at bound copy literal = get_or bound (slot_at copy literal + 65) 0

abbrev pub words_at : List ℕ → ℕ → ℕ → List ℕ
words_at bound copy literal = take (min (count_at bound copy literal) 64) (drop (slot_at copy literal) bound)

unfoldable pub mark_text : Bool → List ℕ
mark_text true = bytes "..."
mark_text false = []

unfoldable pub bound_cut : List ℕ → List ℕ → List ℕ → ℕ → ℕ → List ℕ
bound_cut text index bound copy literal =
    cut_to 120 (shown (names_in text index []) 1 0 [] (words_at bound copy literal) ++ mark_text (ltb 64 (count_at bound copy literal)))

-- it is told of a literal that has variables, in a copy that has been made
unfoldable pub has_variable : List ℕ → Bool
has_variable [] = false
has_variable (w ∷ ws) = cond (eqb (kind_of w) 0) true (has_variable ws)

unfoldable pub is_told : List ℕ → List ℕ → ℕ → ℕ → ℕ → Bool
is_told file bound copy clause literal = cond (eqb (count_at bound copy literal) 0) false (has_variable (literal_part (clause_in file clause) literal))

-- between what comes before it and after it
unfoldable pub told_text : Source → List ℕ → List ℕ → ℕ → ℕ → ℕ → List ℕ
told_text S before after copy clause literal =
    cond (is_told S.file S.bound copy clause literal) (before ++ (bound_cut S.text S.index S.bound copy literal ++ after)) []
