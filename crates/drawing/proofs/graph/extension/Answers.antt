use Rattle.text.proofs.Putting.{then}
use Rattle.drawing.proofs.graph.extension.Goals as goal

pub returns : goal.returns
returns c = then c.copy-a.ensures c.under.ensures
