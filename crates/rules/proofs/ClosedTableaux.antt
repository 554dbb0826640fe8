-- What holds of closed tableaux: the statements, each by a theorem of another module.
use lib.ListN.{length}
use mathlib.Core.List.{List, map}
use mathlib.Core.Logic.{◌↔◌}
use mathlib.Core.Path.{◌≡◌, ◌∙◌, ap}
use Prim.Native.Nat.{ℕ, ◌≤◌}
use Rattle.words.specs.declared.Step.{Step}
use Rattle.table.specs.Syntax.{Table, all_clauses}
use Rattle.rules.specs.Substitution.{Substitution, Solves}
use Rattle.rules.specs.Setting.{Profile, longest_proof, Setting, over}
use Rattle.rules.specs.Tableau.{Closed}
use Rattle.rules.specs.Answer.{disjuncts, answer_words}
use Rattle.rules.specs.Truth.{Interpretation, AllNegative, AllHold, AnswerHolds}
use Rattle.rules.specs.Growing.{Larger, moved}
use Rattle.rules.specs.Reordered.{SameTable}
use Rattle.rules.proofs.Answer.{numbered_disjuncts}
use Rattle.rules.proofs.Locality.{same_words_lem}
use Rattle.rules.proofs.Growing.{raised, raised_tableau, grown, grown_tableau}
use Rattle.rules.proofs.Lengths.{InRange, at_most_longest, steps_in_range}
use Rattle.rules.proofs.Lists.{All}
use Rattle.rules.proofs.Reordered.{reordered_closed}
use Rattle.rules.proofs.Truth.{answer_holds, numbered_holds}

-- A proof has at most 199 steps, or 231 where leaves are restarted, where clauses have at most 7 literals and the bound is at most 32.
pub proof_length : (S : Setting) → All (λ c. length c.literals ≤ 7) (all_clauses S.table) → {steps : List Step} → S.bound ≤ 32
    → Closed S steps → length steps ≤ longest_proof S.profile
proof_length = at_most_longest

-- No step of it is malformed, none a restart where no leaf is restarted; heights are 1 to the bound, clauses and literals are the table's.
pub step_numbers : (S : Setting) → All (λ c. length c.literals ≤ 7) (all_clauses S.table) → {steps : List Step}
    → Closed S steps → All (InRange S) steps
step_numbers = steps_in_range

-- An answer holds in every interpretation in which all clauses but the question hold: under every solution of the closed pairs,
pub answers_hold : (I : Interpretation) (S : Setting) → AllNegative S.table.question.literals → AllHold I S.table.clauses
    → {steps : List Step} (c : Closed S steps) (σ : Substitution) → Solves σ c.tableau.pairs
    → AnswerHolds I (disjuncts σ S.table c.tableau)
answers_hold I S negative hold c σ solves = answer_holds I S c σ solves negative hold

-- and with its variables numbered.
pub answers_hold_as_numbered : (I : Interpretation) (S : Setting) → AllNegative S.table.question.literals → AllHold I S.table.clauses
    → {steps : List Step} (c : Closed S steps) (σ : Substitution) → Solves σ c.tableau.pairs
    → AnswerHolds I (numbered_disjuncts (disjuncts σ S.table c.tableau))
answers_hold_as_numbered I S negative hold c σ solves =
    numbered_holds I (disjuncts σ S.table c.tableau) (answer_holds I S c σ solves negative hold)

-- A larger bound: the same steps are closed, with the same tableau.
pub larger_bound : {rules : Profile} {t : Table} {bound larger : ℕ} {steps : List Step} → bound ≤ larger → (c : Closed (over rules t bound) steps)
    → (d : Closed (over rules t larger) steps) × (d.tableau ≡ c.tableau)
larger_bound h c = (raised h c, raised_tableau h c)

-- Clauses added anywhere before the question: the steps with their clause numbers moved along are closed, with the same tableau (so the same
-- pairs and solutions) and under each solution the same answer words.
pub larger_table : {rules : Profile} {t u : Table} (larger : Larger t u) {bound : ℕ} {steps : List Step} (c : Closed (over rules t bound) steps)
    → (d : Closed (over rules u bound) (map (moved larger) steps)) × (d.tableau ≡ c.tableau)
    × ((σ : Substitution) → answer_words σ u d.tableau ≡ answer_words σ t c.tableau)
larger_table {t} {u} larger c = (
  grown larger c,
  grown_tableau larger c,
  λ σ. ap (answer_words σ u) (grown_tableau larger c) ∙ same_words_lem σ t u c.tableau larger.question,
)

-- The order of clauses before the question, and of literals within clauses, does not matter to whether a closed tableau exists.
pub order_of_clauses : (rules : Profile) {t u : Table} → SameTable t u → (bound : ℕ)
    → ((steps : List Step) × Closed (over rules t bound) steps) ↔ ((steps : List Step) × Closed (over rules u bound) steps)
order_of_clauses = reordered_closed
