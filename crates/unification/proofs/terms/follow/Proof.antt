-- A variable is followed as long as it is bound. The measure is its rank among the bindings.
use borrow.Author.Rules.{rules}
use mathlib.Core.Path.{◌∙◌}
use native.Mathlib.Omega.{arith}
use Rattle.unification.specs.State.{term_of, bindings_in}
use Rattle.unification.proofs.Ranks.{rank_of}
use Rattle.unification.proofs.Follow.{Following, follow_begin, follow_inside, follow_function, AtVariable, follow_variable, follow_free, follow_positive, follow_on, follow_falls}
use Rattle.unification.proofs.terms.follow.Statement.{statement}
use Rattle.unification.proofs.terms.follow.Tie as tie

abbrev invariant-loop : tie.invariant-loop-reference
invariant-loop file work reference at₀ at = Following file work reference at

abbrev decreases-loop : tie.decreases-loop-reference
decreases-loop file work reference at₀ at = rank_of (bindings_in file work) (term_of file work at)

met : (c : tie.After-wide invariant-loop decreases-loop)
    → (let a = c.args in
    AtVariable a.file.now a.work.now a.reference c.loop-reference.at c.wide.result)
met c =
    let s = c in
    follow_variable
    s.requires.0
    s.loop-reference.invariant
    c.word_at-word.ensures
    c.kind.ensures
    c.if-kind-ne0.false
    (c.wide.ensures ∙ c.variable_at.ensures)

pub follow_spec : {M : Type 1} → statement M
follow_spec =
    tie.close
    (tie.spec
    invariant-loop
    decreases-loop
    (λ c. follow_begin c.requires.1)
    (λ c κs. follow_inside c.requires.0 c.loop-reference.invariant)
    (λ c κs. search rules)
    (λ c. follow_function c.requires.0 c.loop-reference.invariant c.word_at-word.ensures c.kind.ensures c.if-kind-ne0.true)
    (λ c κs. search rules)
    (λ c κs. search rules)
    (λ c. omega (arith, (met c).small))
    (λ c. omega (arith, (met c).small))
    (λ c. omega (arith, (met c.before).small, c.requires.0.size))
    (λ c. follow_free c.requires.0 (met c.before.before) c.if-bound-eq0.true)
    (λ c. follow_positive c.requires.0 (met c.before.before) c.if-bound-eq0.false)
    (λ c. follow_falls c.requires.0 (met c.before.before) c.if-bound-eq0.false)
    (λ c. follow_on c.requires.0 (met c.before.before) c.if-bound-eq0.false))
