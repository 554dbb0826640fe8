use borrow.Author.Rules.{rules}
use Rattle.answering.proofs.Paging.{cut_whole, cut_marked}
use Rattle.answering.proofs.tell.cut.Goals as goal

pub returns-then-page-n : goal.returns-then-page-n
returns-then-page-n c = search (rules, cut_whole, cut_marked)

pub returns : goal.returns
returns c = search (rules, cut_whole, cut_marked)
