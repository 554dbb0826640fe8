use Rattle.drawing.proofs.Graphs.{box_begin, box_on, box_over}
use Rattle.drawing.proofs.graph.literal_lines.Goals as goal

pub loop-literal-init : goal.loop-literal-init
loop-literal-init c = box_begin _ _ _ _ _ _ _

pub loop-literal-preserved : goal.loop-literal-preserved
loop-literal-preserved c = box_on c.loop-literal.invariant c.loop-literal-test.true c.literal_line-at.ensures

pub returns : goal.returns
returns c = box_over c.loop-literal.invariant c.loop-literal-test.false
