use borrow.Author.Rules.{rules}
use Rattle.leaves.proofs.Binding.{count_laws}
use Rattle.leaves.proofs.bound.count.Goals as goal

ruleset all = (rules, count_laws)

pub returns-then-bound-place : goal.returns-then-bound-place
returns-then-bound-place c = search all

pub returns : goal.returns
returns c = search all
