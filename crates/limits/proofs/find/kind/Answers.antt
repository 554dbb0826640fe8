use borrow.Author.Rules.{rules}
use Rattle.limits.proofs.Counting.{kind_laws}
use Rattle.limits.proofs.find.kind.Goals as goal

ruleset all = (rules, kind_laws)

pub returns-in-0 : goal.returns-in-0
returns-in-0 c = search all

pub returns-in-1 : goal.returns-in-1
returns-in-1 c = search all

pub returns-in-2-to-3 : goal.returns-in-2-to-3
returns-in-2-to-3 c = search all

pub returns-in_default : goal.returns-in_default
returns-in_default c = search all
