use borrow.Author.Rules.{rules}
use Rattle.leaves.proofs.Leaves.{seek_laws}
use Rattle.leaves.proofs.leaf.leftmost.Goals as goal

ruleset all = (rules, seek_laws)

pub loop-i-init : goal.loop-i-init
loop-i-init c = search all

pub hung-requires : goal.hung-requires
hung-requires c = search all

pub returns-then-n-many : goal.returns-then-n-many
returns-then-n-many c = search all

pub overflow_add-n : goal.overflow_add-n
overflow_add-n c = search all

pub loop-i-preserved : goal.loop-i-preserved
loop-i-preserved c = search all

pub returns : goal.returns
returns c = search all
