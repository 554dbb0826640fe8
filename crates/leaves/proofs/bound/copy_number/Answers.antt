use borrow.Author.Rules.{rules}
use Rattle.leaves.proofs.Binding.{copies_laws}
use Rattle.leaves.proofs.bound.copy_number.Goals as goal

ruleset all = (rules, copies_laws)

pub loop-i-init : goal.loop-i-init
loop-i-init c = search all

pub overflow_add-count : goal.overflow_add-count
overflow_add-count c = search all

pub loop-i-preserved : goal.loop-i-preserved
loop-i-preserved c = search all

pub returns : goal.returns
returns c = search all
