use borrow.Author.Rules.{rules}
use Rattle.drawing.proofs.Graphs.{draw_is, few_own}
use Rattle.drawing.proofs.graph.draw.Goals as goal

pub tableau-requires : goal.tableau-requires
tableau-requires c = search (rules, few_own)

pub returns : goal.returns
returns c = draw_is _ _ (search rules) c.sizes.ensures c.question.ensures c.front.ensures c.tableau.ensures
