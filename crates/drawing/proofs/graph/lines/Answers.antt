use borrow.Author.Rules.{rules}
use Rattle.drawing.proofs.Graphs.{lining_laws}
use Rattle.drawing.proofs.graph.lines.Goals as goal

ruleset all = (rules, lining_laws)

pub loop-other-init : goal.loop-other-init
loop-other-init c = search all

pub loop-other-preserved : goal.loop-other-preserved
loop-other-preserved c = search all

pub returns : goal.returns
returns c = search all
