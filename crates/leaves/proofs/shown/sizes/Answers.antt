use borrow.Author.Rules.{rules}
use Rattle.leaves.proofs.Showing.{sizing_laws}
use Rattle.leaves.proofs.shown.sizes.Goals as goal

ruleset all = (rules, sizing_laws)

pub loop-number-init : goal.loop-number-init
loop-number-init c = search all

pub loop-number-preserved : goal.loop-number-preserved
loop-number-preserved c = search all

pub returns : goal.returns
returns c = search all
