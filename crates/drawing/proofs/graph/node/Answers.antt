use borrow.Author.Rules.{rules}
use Rattle.drawing.proofs.Graphs.{node_is}
use Rattle.drawing.proofs.graph.node.Goals as goal

ruleset all = (rules, node_is)

pub returns : goal.returns
returns c = search all
