use Rattle.engine.proofs.Checker.Walks.{number_other, number_on}
use Rattle.engine.proofs.walk.offset_of.Goals as goal

pub loop-here-preserved-then-kind-ne2 : goal.loop-here-preserved-then-kind-ne2
loop-here-preserved-then-kind-ne2 c = number_other c.loop-here.invariant c.wide.ensures c.kind-kind.ensures c.if-kind-ne2.true

pub loop-here-preserved : goal.loop-here-preserved
loop-here-preserved c = number_on c.loop-here.invariant c.wide.ensures c.kind-kind.ensures c.if-kind-ne2.false c.if-left-eq0.false
