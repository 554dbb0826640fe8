use borrow.Author.Rules.{rules}
use Rattle.answering.proofs.Telling.{page_cut}
use Rattle.answering.proofs.tell.answer_page.Goals as goal

pub returns : goal.returns
returns c = search (rules, page_cut)
