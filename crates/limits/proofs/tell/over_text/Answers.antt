use borrow.Author.Rules.{rules}
use Rattle.limits.proofs.Telling.{over_laws}
use Rattle.limits.proofs.tell.over_text.Goals as goal

ruleset all = (rules, over_laws)

pub returns-in-Some : goal.returns-in-Some
returns-in-Some c = search all

pub returns-in-None : goal.returns-in-None
returns-in-None c = search all
