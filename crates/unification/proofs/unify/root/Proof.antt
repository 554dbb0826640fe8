-- Links lead down to equal terms. The measure is the reference.
use borrow.Author.Rules.{rules}
use mathlib.Core.Path.{◌≡◌, refl, sym, ◌∙◌}
use native.Mathlib.Omega.{arith}
use Rattle.unification.specs.Thorough.{Rooted}
use Rattle.unification.proofs.Thorough.{root_begin, root_less, root_on}
use Rattle.unification.proofs.unify.root.Statement.{statement}
use Rattle.unification.proofs.unify.root.Tie as tie

abbrev invariant-loop : tie.invariant-loop-link
invariant-loop notes reference at₀ at = Rooted notes reference at

abbrev decreases-loop : tie.decreases-loop-link
decreases-loop notes reference at₀ at = at

pub root_spec : {M : Type 1} → statement M
root_spec =
    tie.close
    (tie.spec
    invariant-loop
    decreases-loop
    (λ c. root_begin _)
    (λ c κs. search rules)
    (λ c. omega arith)
    (λ c κs. search rules)
    (λ c. omega arith)
    (λ c. omega arith)
    (λ c. omega arith)
    (λ c. search rules)
    (λ c. omega arith)
    (λ c. let entry = c in root_less entry.requires.0 entry.requires.1 c.loop-link.invariant c.wide-in-loop-link.ensures c.if-link-eq0.false)
    (λ c. let entry = c in root_on entry.requires.0 entry.requires.1 c.loop-link.invariant c.wide-in-loop-link.ensures c.if-link-eq0.false)
    (λ c. search rules))
