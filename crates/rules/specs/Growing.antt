-- A larger table: clauses added anywhere before the question, and steps with their clause numbers moved along.
use Rattle.std.specs.Prelude.{List, [], ◌∷◌, ◌≡◌, ℕ, zero, suc}
use Rattle.words.specs.declared.Step.{Step}
use Rattle.table.specs.Syntax.{Clause, Table}
use Rattle.rules.specs.Locality.{renumbered}

-- the second list is the first with clauses added anywhere
pub data Inserted : List Clause → List Clause → Type 0 where
  at_end : Inserted [] []
  kept : {c : Clause} {cs ds : List Clause} → Inserted cs ds → Inserted (c ∷ cs) (c ∷ ds)
  added : {c : Clause} {cs ds : List Clause} → Inserted cs ds → Inserted cs (c ∷ ds)

-- a clause's number in the larger list; the number after the last, which is the question's, becomes the number after the last
unfoldable pub along : {cs ds : List Clause} → Inserted cs ds → ℕ → ℕ
along at_end n = n
along (kept r) zero = zero
along (kept r) (suc n) = suc (along r n)
along (added r) n = suc (along r n)

-- clauses added anywhere before the question
pub record Larger (t u : Table) : Type 0 where
  pub clauses : Inserted t.clauses u.clauses
  -- the question stays as it is
  pub question : t.question ≡ u.question

-- a step of the smaller table as a step of the larger
unfoldable pub moved : {t u : Table} → Larger t u → Step → Step
moved larger s = renumbered (along larger.clauses) s
