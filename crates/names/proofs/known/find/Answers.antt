use Rattle.names.proofs.Looking.{begin_looking, looked_up, looked_on, looked_out}
use Rattle.names.proofs.known.find.Goals as goal

pub loop-n-init : goal.loop-n-init
loop-n-init c = begin_looking

pub returns-then-same-clause-is : goal.returns-then-same-clause-is
returns-then-same-clause-is c = looked_up c.loop-n.invariant c.loop-n-test.true c.wide.ensures c.same.ensures c.if-same.true

pub loop-n-preserved : goal.loop-n-preserved
loop-n-preserved c = looked_on c.loop-n.invariant c.loop-n-test.true c.wide.ensures c.same.ensures c.if-same.false

pub returns-clause-is : goal.returns-clause-is
returns-clause-is c = looked_out c.loop-n.invariant c.loop-n-test.false c.loop-n.auto.n-end
