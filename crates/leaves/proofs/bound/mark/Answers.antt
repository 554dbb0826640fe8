use borrow.Author.Rules.{rules}
use Rattle.leaves.proofs.Binding.{mark_laws}
use Rattle.leaves.proofs.bound.mark.Goals as goal

ruleset all = (rules, mark_laws)

pub returns-then-longer : goal.returns-then-longer
returns-then-longer c = search all

pub returns : goal.returns
returns c = search all
