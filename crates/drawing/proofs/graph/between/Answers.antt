use borrow.Author.Rules.{rules}
use Rattle.drawing.proofs.Graphs.{between_is}
use Rattle.drawing.proofs.graph.between.Goals as goal

ruleset all = (rules, between_is)

pub returns : goal.returns
returns c = search all
