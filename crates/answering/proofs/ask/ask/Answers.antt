use borrow.Author.Rules.{rules}
use Rattle.answering.proofs.Asking.{ask_laws}
use Rattle.answering.proofs.ask.ask.Goals as goal

pub returns-then-o-gt32 : goal.returns-then-o-gt32
returns-then-o-gt32 g c = search (rules, ask_laws)

pub returns-then-read-ne0 : goal.returns-then-read-ne0
returns-then-read-ne0 g c = search (rules, ask_laws)

pub answer-requires : goal.answer-requires
answer-requires g c = search (rules, ask_laws)

pub returns : goal.returns
returns g c = search (rules, ask_laws)
