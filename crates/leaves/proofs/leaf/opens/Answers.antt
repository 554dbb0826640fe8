use borrow.Author.Rules.{rules}
use Rattle.leaves.specs.Leaves.{opens}
use Rattle.leaves.proofs.Leaves.{opens_extension}
use Rattle.leaves.proofs.leaf.opens.Goals as goal

ruleset all = (rules, opens_extension)

pub returns-in-Extension : goal.returns-in-Extension
returns-in-Extension c = search all

pub returns-in-Reduction : goal.returns-in-Reduction
unfolding opens
returns-in-Reduction c = search all
