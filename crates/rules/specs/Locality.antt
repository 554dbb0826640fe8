-- Two tables that have the clauses that some steps copy in common, perhaps under other numbers; and the steps renumbered.
use Rattle.std.specs.Prelude.{length, List, ◌↔◌, ◌≡◌, ℕ}
use Rattle.std.proofs.Math.ListN.{get_elem?}
use Rattle.words.specs.declared.Step.{Step}
use Rattle.words.specs.declared.Step.TheVariants.{Reduction, Extension, Restart, Malformed}
use Rattle.table.specs.Syntax.{Table, all_clauses}
use Rattle.rules.specs.System.{◌∈◌}

-- a step with another clause number
unfoldable pub renumbered : (ℕ → ℕ) → Step → Step
renumbered number (Reduction height) = Reduction height
renumbered number (Extension clause literal) = Extension (number clause) literal
renumbered number Restart = Restart
renumbered number Malformed = Malformed

-- clause i of one table is clause k of the other (or there is neither), and both are the question or neither is
pub record SameClauseAt (t u : Table) (i k : ℕ) : Type 0 where
  pub clause : get_elem? (all_clauses t) i ≡ get_elem? (all_clauses u) k
  pub question : (i ≡ length t.clauses) ↔ (k ≡ length u.clauses)

-- the two tables have the question in common, and every clause that the steps copy
pub record SameCopied (t u : Table) (number : ℕ → ℕ) (steps : List Step) : Type 0 where
  pub question : t.question ≡ u.question
  pub copied : (clause literal : ℕ) → Extension clause literal ∈ steps → SameClauseAt t u clause (number clause)
