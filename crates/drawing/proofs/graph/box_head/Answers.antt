use borrow.Author.Rules.{rules}
use Rattle.drawing.proofs.Graphs.{box_is}
use Rattle.drawing.proofs.graph.box_head.Goals as goal

ruleset all = (rules, box_is)

pub returns : goal.returns
returns c = search all
