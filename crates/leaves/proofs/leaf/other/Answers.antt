use borrow.Author.Rules.{rules}
use Rattle.leaves.proofs.Leaves.{other_laws}
use Rattle.leaves.proofs.leaf.other.Goals as goal

ruleset all = (rules, other_laws)

pub returns-then-n-entered : goal.returns-then-n-entered
returns-then-n-entered c = search all

pub overflow_add-result : goal.overflow_add-result
overflow_add-result c = search all

pub returns : goal.returns
returns c = search all
