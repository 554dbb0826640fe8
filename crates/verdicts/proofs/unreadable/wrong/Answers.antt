use borrow.Author.Rules.{rules}
use Rattle.verdicts.proofs.Saying.{unreadable_is}
use Rattle.verdicts.proofs.unreadable.wrong.Goals as goal

pub returns : goal.returns
returns c = search (rules, unreadable_is)
