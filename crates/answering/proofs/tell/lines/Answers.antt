use borrow.Author.Rules.{rules}
use Rattle.answering.proofs.Telling.{lines_are}
use Rattle.answering.proofs.tell.lines.Goals as goal

pub returns : goal.returns
returns c = search (rules, lines_are)
