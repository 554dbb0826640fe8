use borrow.Author.Rules.{rules}
use Rattle.variable_names.proofs.Walks.{fill_laws}
use Rattle.variable_names.proofs.own.put_kinds.Goals as goal

ruleset all = (rules, fill_laws)

pub loop-i-init : goal.loop-i-init
loop-i-init c = search all

pub loop-i-preserved : goal.loop-i-preserved
loop-i-preserved c = search all

pub returns : goal.returns
returns c = search all
