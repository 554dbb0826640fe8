use borrow.Author.Rules.{rules}
use Rattle.drawing.proofs.Graphs.{reduction_laws}
use Rattle.drawing.proofs.graph.reduction.Goals as goal

ruleset all = (rules, reduction_laws)

pub returns-in-Some : goal.returns-in-Some
returns-in-Some c = search all

pub returns-in-None : goal.returns-in-None
returns-in-None c = search all
