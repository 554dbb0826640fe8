use borrow.Author.Rules.{rules}
use Rattle.leaves.proofs.Binding.{variable_laws}
use Rattle.leaves.proofs.bound.has_variable.Goals as goal

ruleset all = (rules, variable_laws)

pub loop-w-init : goal.loop-w-init
loop-w-init c = search all

pub returns-then-kind-eq0 : goal.returns-then-kind-eq0
returns-then-kind-eq0 c = search all

pub loop-w-preserved : goal.loop-w-preserved
loop-w-preserved c = search all

pub returns : goal.returns
returns c = search all
