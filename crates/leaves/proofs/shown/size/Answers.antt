use borrow.Author.Rules.{rules}
use Rattle.leaves.proofs.Showing.{size_laws}
use Rattle.leaves.proofs.shown.size.Goals as goal

ruleset all = (rules, size_laws)

pub returns-then-is_empty : goal.returns-then-is_empty
returns-then-is_empty c = search all

pub returns : goal.returns
returns c = search all
