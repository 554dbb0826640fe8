-- The names of the variables of a text's clauses, by the numbers that the text's file has for them.
use Rattle.std.specs.Prelude.{cond, List, [], ◌∷◌, ◌++◌, ◌≡◌, ℕ, ◌≤◌, ◌<◌, ltb, length, get_or}
use Rattle.std.specs.Borrow.{Bor}
use Rattle.clausetext.specs.Syntax.{Literal, Clause}
use Rattle.clausetext.specs.Texts.{Says, Permitted}
use Rattle.names.specs.Numbers.{Name}
use Rattle.naming.specs.Index.{IsName}
use Rattle.tptp.specs.Said.{variables, stated, asked}

-- the literals of the clause with a number in the file, where the question is last; none where there is no such clause
abbrev pub literals_at : List Clause → ℕ → List Literal
literals_at cs clause = get_or (stated cs ++ (asked cs ∷ [])) clause []

-- the name with a number; none where there are more names than document 01 allows a clause
abbrev pub few_named : List Name → ℕ → Name
few_named names number = cond (ltb 16 (length names)) [] (get_or names number [])

abbrev pub variable_name : List Clause → ℕ → ℕ → Name
variable_name cs clause number = few_named (variables (literals_at cs clause)) number

-- a part of the text that is the name of a variable; an empty one where the text is not permitted or too long
pub record IsVariable (text : Bor (List ℕ)) (clause number : ℕ) (r : Bor (List ℕ)) : Type 0 where
  pub at : ℕ
  pub part : IsName text at r
  pub said : length text.now ≤ 65536 → (cs : List Clause) → Says text.now cs → r.now ≡ variable_name cs clause number
  pub wrong : (Permitted text.now → ⊥) → r.now ≡ []
  pub long : 65536 < length text.now → r.now ≡ []
