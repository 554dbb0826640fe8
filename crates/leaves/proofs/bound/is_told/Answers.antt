use borrow.Author.Rules.{rules}
use Rattle.leaves.proofs.Binding.{told_not, told_so}
use Rattle.leaves.proofs.bound.is_told.Goals as goal

pub returns-then-count-eq0 : goal.returns-then-count-eq0
returns-then-count-eq0 c = told_not _ _ _ _ _ c.count.ensures c.if-count-eq0.true

pub returns : goal.returns
returns c =
    told_so _ _ _ _ _ c.count.ensures c.if-count-eq0.false c.wide.ensures c.clause.ensures.result_value c.wide-2.ensures c.literal.ensures c.has_variable.ensures
