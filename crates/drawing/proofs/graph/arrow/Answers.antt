use borrow.Author.Rules.{rules}
use Rattle.drawing.proofs.Graphs.{arrow_laws}
use Rattle.drawing.proofs.graph.arrow.Goals as goal

ruleset all = (rules, arrow_laws)

pub returns-in_default : goal.returns-in_default
returns-in_default c = search all

pub returns : goal.returns
returns c = search all
