use borrow.Author.Rules.{rules}
use Rattle.leaves.proofs.Leaves.{at_laws}
use Rattle.leaves.proofs.leaf.at.Goals as goal

ruleset all = (rules, at_laws)

pub returns-then-list-i : goal.returns-then-list-i
returns-then-list-i c = search all

pub returns : goal.returns
returns c = search all
