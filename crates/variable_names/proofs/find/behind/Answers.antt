use borrow.Author.Rules.{rules}
use Rattle.variable_names.proofs.Walks.{pass_laws}
use Rattle.variable_names.proofs.find.behind.Goals as goal

ruleset all = (rules, pass_laws)

pub loop-at-init : goal.loop-at-init
loop-at-init c = search all

pub loop-at-preserved : goal.loop-at-preserved
loop-at-preserved c = search all

pub loop-at-preserved-then-mark-sort : goal.loop-at-preserved-then-mark-sort
loop-at-preserved-then-mark-sort c = search all

pub returns-then-left-eq0 : goal.returns-then-left-eq0
returns-then-left-eq0 c = search all

pub returns : goal.returns
returns c = search all
