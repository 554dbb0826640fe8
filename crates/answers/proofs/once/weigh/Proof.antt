-- A copy of another clause is not kept, nor one that says what was said before.
use borrow.Author.Rules.{rules}
use native.Mathlib.Omega.{arith}
use Rattle.answers.proofs.Repeats.{weighs_other, weighs_next, weighs_said, weighs_new}
use Rattle.answers.proofs.once.weigh.Statement.{statement}
use Rattle.answers.proofs.once.weigh.Tie as tie

pub weigh_spec : {M : Type 1} → statement M
weigh_spec =
    tie.close
    (tie.spec
    (λ c κs. search rules)
    (λ c. omega (arith, c.requires.made, c.requires.good.copies, c.wide.ensures))
    (λ c. omega (arith, c.requires.made, c.requires.good.copies, c.wide.ensures))
    (λ c. omega (arith, c.requires.made, c.requires.good.copies, c.requires.good.size, c.wide.ensures))
    (λ c. weighs_other c.requires c.wide.ensures c.if-work-wide.true)
    (λ c κs. weighs_next c.requires c.wide.ensures c.if-work-wide.false)
    (λ c. search rules)
    (λ c. weighs_said c.requires c.wide.ensures c.if-work-wide.false c.said_before.ensures c.if-said_before.true)
    (λ c. search rules)
    (λ c. weighs_new c.requires c.wide.ensures c.if-work-wide.false c.said_before.ensures c.if-said_before.false))
