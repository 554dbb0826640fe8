use borrow.Author.Rules.{rules}
use Rattle.limits.proofs.Finding.{at_laws}
use Rattle.limits.proofs.find.limit_at.Goals as goal

ruleset all = (rules, at_laws)

pub returns-then-is_some : goal.returns-then-is_some
returns-then-is_some c = search all

pub returns : goal.returns
returns c = search all
