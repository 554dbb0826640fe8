-- The names of a text's clauses: those of its questions, and those of the others, which come first in the file.
use Rattle.std.specs.Prelude.{Bool, true, false, cond, List, [], ◌∷◌, ◌++◌, ◌≡◌, ℕ, suc, eqb, ltb, get_or}
use Rattle.clausetext.specs.declared.kind.Mark.{Mark}
use Rattle.clausetext.specs.declared.kind.Mark.TheVariants.{Open, Close, Comma, Bar, Tilde, Dot}
use Rattle.clausetext.specs.Syntax.{Role, Axiom, Hypothesis, NegatedConjecture, Clause}
use Rattle.clausetext.specs.Texts.{Says}
use Rattle.clausetext.specs.Tokens.{Token, word, capital, mark}
use Rattle.names.specs.Numbers.{Name}
use Rattle.names.specs.Noting.{name_at, names_at}
use Rattle.text.specs.Put.{Put}

abbrev pub same : Bool → Bool → Bool
same true b = b
same false true = false
same false false = true

abbrev pub asks : Role → Bool
asks Axiom = false
asks Hypothesis = false
asks NegatedConjecture = true

-- the names of the clauses that are questions, or of those that are not, in the order of the text
unfoldable pub names_of : Bool → List Clause → List Name
names_of asked [] = []
names_of asked (c ∷ cs) = cond (same (asks c.role) asked) (c.name ∷ names_of asked cs) (names_of asked cs)

-- in the order of the file the question is last
abbrev pub file_names : List Clause → List Name
file_names cs = names_of false cs ++ names_of true cs

-- the places of such names have been put down
pub record NamesPut (text : List ℕ) (asked : Bool) (out : List ℕ) (from : ℕ) (out' : List ℕ) (end : ℕ) : Type 0 where
  pub places : List ℕ
  pub said : List Clause
  pub says : Says text said
  pub names : names_at text places ≡ names_of asked said
  pub written : Put out from places out' end

-- Machinery: the names found token by token. `stage` counts the tokens of a clause up to its formula: 2 at its name, 4 at its role, 5 after it.
unfoldable pub next_stage : ℕ → ℕ
next_stage stage = cond (ltb stage 5) (suc stage) 5

unfoldable pub sign_stage : ℕ → Mark → ℕ
sign_stage stage Open = next_stage stage
sign_stage stage Close = next_stage stage
sign_stage stage Comma = next_stage stage
sign_stage stage Bar = next_stage stage
sign_stage stage Tilde = next_stage stage
sign_stage stage Dot = 0

abbrev pub kept : {A : Type 0} → ℕ → A → A → A
kept stage name other = cond (eqb stage 2) other name

abbrev pub is_question : Name → Bool
is_question role = eqb (get_or role 0 0) 110

-- what a word puts down: the name kept, at the role of a clause of the wanted sort
abbrev pub emits : {A : Type 0} → Bool → ℕ → A → Name → List A
emits asked stage name role = cond (eqb stage 4) (cond (same (is_question role) asked) (name ∷ []) []) []

unfoldable pub found : Bool → ℕ → Name → List Token → List Name
found asked stage name [] = []
found asked stage name (word w ∷ ts) = emits asked stage name w ++ found asked (next_stage stage) (kept stage name w) ts
found asked stage name (capital x ∷ ts) = found asked (next_stage stage) name ts
found asked stage name (mark m ∷ ts) = found asked (sign_stage stage m) name ts

pub record Emitted (text : List ℕ) (asked : Bool) (stage name start : ℕ) (out : List ℕ) (at : ℕ) (out' : List ℕ) (end : ℕ) : Type 0 where
  pub put : Put out at (emits asked stage name (name_at text start)) out' end
