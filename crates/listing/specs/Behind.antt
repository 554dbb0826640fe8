-- Order 7 (document 02): the clauses behind a proof: the question and each clause that a step copies, ascending, each once, with the number of its copies.
use Rattle.std.specs.Prelude.{eqb, length, take, cond, List, [], ◌∷◌, ◌++◌, map, ℕ, zero, suc}
use Rattle.words.specs.Steps.{step_of, step_word}
use Rattle.words.specs.declared.Step.{Step}
use Rattle.words.specs.declared.Step.TheVariants.{Reduction, Extension, Restart, Malformed}
use Rattle.table.specs.Syntax.{Clause, Table}
use Rattle.rules.specs.Locality.{renumbered}

-- how many of the steps copy the clause of this number; under document 01's rules none is a restart
unfoldable pub copied_by : List Step → ℕ → ℕ
copied_by [] number = 0
copied_by (Extension clause literal ∷ steps) number = cond (eqb clause number) (suc (copied_by steps number)) (copied_by steps number)
copied_by (Reduction height ∷ steps) number = copied_by steps number
copied_by (Restart ∷ steps) number = copied_by steps number
copied_by (Malformed ∷ steps) number = copied_by steps number

-- a listed clause
pub record Listed : Type 0 where
  pub number : ℕ
  pub copies : ℕ
  pub clause : Clause

-- a clause is listed before the others if it has copies
unfoldable pub if_copied : ℕ → ℕ → Clause → List Listed → List Listed
if_copied number zero clause others = others
if_copied number (suc more) clause others = record { number = number; copies = suc more; clause = clause } ∷ others

-- clauses numbered from this number on, with the number of each one's copies
unfoldable pub copied_from : (ℕ → ℕ) → ℕ → List Clause → List Listed
copied_from copies number [] = []
copied_from copies number (c ∷ cs) = if_copied number (copies number) c (copied_from copies (suc number) cs)

-- each clause before the question that a step copies
unfoldable pub copied : Table → List Step → List Listed
copied t steps = copied_from (copied_by steps) 0 t.clauses

-- the question, for which the start counts
unfoldable pub asked : Table → List Step → Listed
asked t steps =
    record { number = length t.clauses; copies = suc (copied_by steps (length t.clauses)); clause = t.question }

-- the question's number is the last
unfoldable pub listed : Table → List Step → List Listed
listed t steps = copied t steps ++ (asked t steps ∷ [])

-- the table of just the listed clauses and the question
unfoldable pub listed_table : Table → List Step → Table
listed_table t steps = record { clauses = map (λ l. l.clause) (copied t steps); question = t.question }

-- a clause's number there: so many clauses are listed before it
unfoldable pub listed_number : Table → List Step → ℕ → ℕ
listed_number t steps number = length (copied_from (copied_by steps) 0 (take number t.clauses))

-- a step with its clause number moved, and a step's word
abbrev pub moved_step : Table → List Step → Step → Step
moved_step t steps = renumbered (listed_number t steps)

abbrev pub moved_word : Table → List Step → ℕ → ℕ
moved_word t steps word = step_word (moved_step t steps (step_of word))
