use borrow.Author.Rules.{rules}
use Rattle.tuples.proofs.Walking.{span_laws}
use Rattle.tuples.proofs.term_size.Goals as goal

ruleset all = (rules, span_laws)

pub loop-at-init : goal.loop-at-init
loop-at-init c = search all

pub returns-then-terms-eq0 : goal.returns-then-terms-eq0
returns-then-terms-eq0 c = search all

pub overflow_add-terms : goal.overflow_add-terms
overflow_add-terms c = search all

pub loop-at-preserved : goal.loop-at-preserved
loop-at-preserved c = search all

pub returns : goal.returns
returns c = search all
