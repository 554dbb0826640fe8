use borrow.Author.Rules.{rules}
use native.Mathlib.Omega.{arith}
use Rattle.engine.proofs.Checker.Steps.{leaf_reads, leaf_none, leaf_told}
use Rattle.engine.proofs.check.restarts_leaf.Statement.{statement}
use Rattle.engine.proofs.check.restarts_leaf.Tie as tie

pub restarts_leaf_spec : {M : Type 1} → statement M
restarts_leaf_spec =
    tie.close
    (tie.spec
    (λ c. leaf_none c.requires c.args.conditions c.if-head-eq0.true)
    (λ c κs. let ready = c.requires in (ready.good.size, omega (arith, c.if-head-eq0.false), omega (arith, ready.head, ready.room, ready.good.copies)))
    (λ c κs. leaf_reads c.requires (omega (arith, c.if-head-eq0.false)) c.literal_of.ensures)
    (λ c κs. search rules)
    (λ c. leaf_told c.requires c.args.conditions c.if-head-eq0.false c.literal_of.ensures c.word_at-word.ensures c.restarts.ensures))
