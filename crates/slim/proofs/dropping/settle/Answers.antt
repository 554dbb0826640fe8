use Rattle.std.proofs.Common.{arith, rules}
use Rattle.slim.proofs.Settling.{settle_laws, settle_next}
use Rattle.slim.proofs.dropping.settle.Goals as goal

ruleset all = (rules, settle_laws)

pub returns-then-not-round : goal.returns-then-not-round
returns-then-not-round c = search all

pub loop-preserved : goal.loop-preserved
loop-preserved c = settle_next _ _ _ _ _ c.loop.invariant c.round.ensures (omega arith) (omega arith)
