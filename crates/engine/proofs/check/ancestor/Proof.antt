-- The parent's head is taken as often as the height says. The measure is how often is left.
use borrow.Author.Rules.{rules}
use Rattle.engine.proofs.Checker.Lineage.{Climbing, climb_laws}
use Rattle.engine.proofs.check.ancestor.Statement.{statement}
use Rattle.engine.proofs.check.ancestor.Tie as tie

ruleset all = (rules, climb_laws)

abbrev invariant-loop : tie.invariant-loop-left
invariant-loop work head height at₀ left₀ at left = Climbing work head height at left

abbrev decreases-loop : tie.decreases-loop-left
decreases-loop work head height at₀ left₀ at left = left

pub ancestor_spec : {M : Type 1} → statement M
ancestor_spec =
    tie.close
    (tie.spec
    invariant-loop
    decreases-loop
    (λ c. search all)
    (λ c κs. search all)
    (λ c. search all)
    (λ c. search all)
    (λ c. search all)
    (λ c. search all)
    (λ c κs. search all)
    (λ c. search all))
