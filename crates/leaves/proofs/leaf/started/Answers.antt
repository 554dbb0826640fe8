use borrow.Author.Rules.{rules}
use Rattle.leaves.proofs.Leaves.{started_laws}
use Rattle.leaves.proofs.leaf.started.Goals as goal

ruleset all = (rules, started_laws)

pub returns-then-n-at : goal.returns-then-n-at
returns-then-n-at c = search all

pub returns : goal.returns
returns c = search all
