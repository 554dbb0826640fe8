use borrow.Author.Rules.{rules}
use Rattle.limits.proofs.Finding.{search_laws}
use Rattle.limits.proofs.find.find_in.Goals as goal

ruleset all = (rules, search_laws)

pub loop-at-init : goal.loop-at-init
loop-at-init c = search all

pub overflow_add-stated : goal.overflow_add-stated
overflow_add-stated c = search all

pub overflow_add-stated-in-loop-at : goal.overflow_add-stated-in-loop-at
overflow_add-stated-in-loop-at c = search all

pub limit_at-requires : goal.limit_at-requires
limit_at-requires c = search all

pub returns-in-Some : goal.returns-in-Some
returns-in-Some c = search all

pub overflow_add-asked : goal.overflow_add-asked
overflow_add-asked c = search all

pub loop-at-preserved-then-question : goal.loop-at-preserved-then-question
loop-at-preserved-then-question c = search all

pub overflow_add-stated-else-question : goal.overflow_add-stated-else-question
overflow_add-stated-else-question c = search all

pub loop-at-smaller-then-question : goal.loop-at-smaller-then-question
loop-at-smaller-then-question c = search all

pub loop-at-smaller : goal.loop-at-smaller
loop-at-smaller c = search all

pub loop-at-preserved : goal.loop-at-preserved
loop-at-preserved c = search all

pub returns : goal.returns
returns c = search all
