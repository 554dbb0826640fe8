use borrow.Author.Rules.{rules}
use Rattle.leaves.proofs.Binding.{bound_cut_is}
use Rattle.leaves.proofs.bound.literal_bound.Goals as goal

pub returns : goal.returns
returns c =
    bound_cut_is _ _ _ _ _ c.words-own.ensures.result_value c.front.ensures c.count.ensures (search rules) c.words-a.ensures c.mark-b.ensures c.front-2.ensures
    c.cut.ensures
