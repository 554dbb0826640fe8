-- Status 22 (document 02, order 11): the first clause other than the question without a positive literal.
use Rattle.std.specs.Prelude.{Bool, false, cond, not, ◌||◌, List, [], ◌∷◌, ℕ}
use Rattle.std.proofs.Math.Option.{Option, none, some}
use Rattle.table.specs.File.{clause_starts, table_in}
use Rattle.table.specs.Syntax.{Literal, Clause}

-- a positive literal among literals
unfoldable pub concludes : List (Literal ℕ) → Bool
concludes [] = false
concludes (l ∷ ls) = not l.negative || concludes ls

-- where the first clause without one begins, by where the clauses begin
unfoldable pub first_without : List ℕ → List Clause → Option ℕ
first_without [] cs = none
first_without (place ∷ places) [] = none
first_without (place ∷ places) (c ∷ cs) = cond (concludes c.literals) (first_without places cs) (some place)

-- in a file; its table's clauses are those other than the question
abbrev pub first_negative : List ℕ → Option ℕ
first_negative file = first_without (clause_starts file) (table_in file).clauses
