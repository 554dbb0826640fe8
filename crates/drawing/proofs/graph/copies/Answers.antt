use Rattle.drawing.proofs.Graphs.{copies_is}
use Rattle.drawing.proofs.graph.copies.Goals as goal

pub returns : goal.returns
returns c = copies_is _ _ _ _ c.at-size.ensures c.copy-a.ensures c.steps_drawn.ensures
