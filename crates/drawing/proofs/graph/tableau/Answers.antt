use Rattle.drawing.proofs.Graphs.{tableau_is}
use Rattle.drawing.proofs.graph.tableau.Goals as goal

pub returns : goal.returns
returns c = tableau_is _ _ _ _ c.bytes-a.ensures c.copies-b.ensures c.bytes.ensures
