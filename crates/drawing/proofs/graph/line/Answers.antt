use borrow.Author.Rules.{rules}
use Rattle.drawing.proofs.Graphs.{line_is}
use Rattle.drawing.proofs.graph.line.Goals as goal

ruleset all = (rules, line_is)

pub returns : goal.returns
returns c = search all
