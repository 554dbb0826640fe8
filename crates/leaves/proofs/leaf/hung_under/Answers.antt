use borrow.Author.Rules.{rules}
use Rattle.leaves.proofs.Leaves.{above_laws}
use Rattle.leaves.proofs.leaf.hung_under.Goals as goal

ruleset all = (rules, above_laws)

pub returns-then-number-eq0 : goal.returns-then-number-eq0
returns-then-number-eq0 c = search all

pub returns : goal.returns
returns c = search all
