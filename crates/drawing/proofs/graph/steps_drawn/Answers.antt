use Rattle.drawing.proofs.Graphs.{drawing_begin, drawing_on, drawing_over}
use Rattle.drawing.proofs.graph.steps_drawn.Goals as goal

pub loop-i-init : goal.loop-i-init
loop-i-init c = drawing_begin _ _ _ _ _ _

pub loop-i-preserved : goal.loop-i-preserved
loop-i-preserved c = drawing_on c.loop-i.invariant c.loop-i-test.true c.step-at.ensures

pub returns : goal.returns
returns c = drawing_over c.loop-i.invariant c.loop-i-test.false
