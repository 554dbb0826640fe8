use Rattle.drawing.proofs.Graphs.{label_is}
use Rattle.drawing.proofs.graph.label.Goals as goal

pub returns : goal.returns
returns c = label_is _ _ _ _ c.bytes-a.ensures c.literal_cut-b.ensures c.told-c.ensures c.bytes.ensures
