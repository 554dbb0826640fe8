use borrow.Author.Rules.{rules}
use Rattle.leaves.specs.Bound.{copies_by}
use Rattle.leaves.proofs.bound.copies_by.Goals as goal

ruleset all = rules

pub returns-in-Extension : goal.returns-in-Extension
unfolding copies_by
returns-in-Extension c = search all

pub returns-in-Reduction : goal.returns-in-Reduction
unfolding copies_by
returns-in-Reduction c = search all
