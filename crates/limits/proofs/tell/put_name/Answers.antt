use borrow.Author.Rules.{rules}
use Rattle.limits.proofs.Telling.{name_told}
use Rattle.limits.proofs.tell.put_name.Goals as goal

ruleset all = (rules, name_told)

pub returns : goal.returns
returns c = search all
