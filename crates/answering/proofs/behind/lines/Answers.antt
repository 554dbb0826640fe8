use borrow.Author.Rules.{rules}
use Rattle.answering.proofs.Used.{line_laws}
use Rattle.answering.proofs.behind.lines.Goals as goal

ruleset all = (rules, line_laws)

pub loop-number-init : goal.loop-number-init
loop-number-init c = search all

pub bounds-copies-number : goal.bounds-copies-number
bounds-copies-number c = search all

pub loop-number-preserved-then-used-eq0 : goal.loop-number-preserved-then-used-eq0
loop-number-preserved-then-used-eq0 c = search all

pub loop-number-preserved : goal.loop-number-preserved
loop-number-preserved c = search all

pub bounds-copies-question : goal.bounds-copies-question
bounds-copies-question c = search all

pub overflow_add-copies : goal.overflow_add-copies
overflow_add-copies c = search all

pub returns : goal.returns
returns c = search all
