use borrow.Author.Rules.{rules}
use Rattle.answering.proofs.Telling.{end_laws}
use Rattle.answering.proofs.tell.ended.Goals as goal

pub returns-then-status-eq-NONE_FOUND : goal.returns-then-status-eq-NONE_FOUND
returns-then-status-eq-NONE_FOUND c = search (rules, end_laws)

pub returns-then-status-eq-RAN_OUT : goal.returns-then-status-eq-RAN_OUT
returns-then-status-eq-RAN_OUT c = search (rules, end_laws)

pub returns-then-status-eq-ANSWER_TOO_LONG : goal.returns-then-status-eq-ANSWER_TOO_LONG
returns-then-status-eq-ANSWER_TOO_LONG c = search (rules, end_laws)

pub returns : goal.returns
returns c = search (rules, end_laws)
