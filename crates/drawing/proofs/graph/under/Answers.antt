use borrow.Author.Rules.{rules}
use Rattle.drawing.proofs.Graphs.{under_laws}
use Rattle.drawing.proofs.graph.under.Goals as goal

ruleset all = (rules, under_laws)

pub returns-in-Some : goal.returns-in-Some
returns-in-Some c = search all

pub returns-in-None : goal.returns-in-None
returns-in-None c = search all
