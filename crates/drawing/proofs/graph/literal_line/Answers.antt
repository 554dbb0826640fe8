use Rattle.drawing.proofs.Graphs.{literal_line_is}
use Rattle.drawing.proofs.graph.literal_line.Goals as goal

pub returns : goal.returns
returns c = literal_line_is _ _ _ _ _ c.bytes-a.ensures c.node-b.ensures c.label.ensures
