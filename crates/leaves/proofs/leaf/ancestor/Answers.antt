use borrow.Author.Rules.{rules}
use Rattle.leaves.proofs.Leaves.{climb_laws}
use Rattle.leaves.proofs.leaf.ancestor.Goals as goal

ruleset all = (rules, climb_laws)

pub loop-init : goal.loop-init
loop-init c = search all

pub loop-preserved : goal.loop-preserved
loop-preserved c = search all

pub returns : goal.returns
returns c = search all
