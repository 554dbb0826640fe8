use borrow.Author.Rules.{rules}
use Rattle.drawing.proofs.Graphs.{stroke_laws}
use Rattle.drawing.proofs.graph.stroke.Goals as goal

ruleset all = (rules, stroke_laws)

pub returns-then-pair : goal.returns-then-pair
returns-then-pair c = search all

pub returns : goal.returns
returns c = search all
