use Rattle.std.proofs.Common.{arith}
use Rattle.naming.proofs.Showing.{end_over, end_there, end_on}
use Rattle.naming.proofs.show.literal_end.Goals as goal

pub returns-then-kind-eq2 : goal.returns-then-kind-eq2
returns-then-kind-eq2 c = end_there c.loop-at.invariant c.loop-at-test.true c.kind.ensures c.if-kind-eq2.true

pub loop-at-preserved : goal.loop-at-preserved
loop-at-preserved c = end_on c.loop-at.invariant c.loop-at-test.true c.kind.ensures c.if-kind-eq2.false

pub returns : goal.returns
returns c = let inv = c.loop-at.invariant in omega (arith, end_over inv c.loop-at-test.false, inv.within, c.loop-at-test.false)
