use borrow.Author.Rules.{rules}
use Rattle.leaves.specs.Leaves.{hung}
use Rattle.leaves.proofs.Leaves.{hung_extension}
use Rattle.leaves.proofs.leaf.hung.Goals as goal

ruleset all = (rules, hung_extension)

pub returns-in-Extension : goal.returns-in-Extension
returns-in-Extension c = search all

pub returns-in-Reduction : goal.returns-in-Reduction
unfolding hung
returns-in-Reduction c = search all
