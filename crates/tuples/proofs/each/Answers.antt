use borrow.Author.Rules.{rules}
use Rattle.tuples.proofs.Walking.{each_laws}
use Rattle.tuples.proofs.each.Goals as goal

ruleset all = (rules, each_laws)

pub loop-done-init : goal.loop-done-init
loop-done-init c = search all

pub loop-done-preserved : goal.loop-done-preserved
loop-done-preserved c = search all

pub returns : goal.returns
returns c = search all
