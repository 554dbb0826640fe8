use borrow.Author.Rules.{rules}
use Rattle.answering.proofs.Asking.{answer_holds, answer_told}
use Rattle.answering.proofs.ask.answer.Goals as goal

pub returns : goal.returns
returns g c = search (rules, answer_holds, answer_told)
