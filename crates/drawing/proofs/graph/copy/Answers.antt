use Rattle.drawing.proofs.Graphs.{copy_is}
use Rattle.drawing.proofs.graph.copy.Goals as goal

pub returns : goal.returns
returns c = copy_is _ _ _ _ _ c.box_head-a.ensures c.literal_lines-b.ensures c.bytes.ensures
