use borrow.Author.Rules.{rules}
use Rattle.limits.proofs.Counting.{most_laws}
use Rattle.limits.proofs.find.most_parts.Goals as goal

ruleset all = (rules, most_laws)

pub loop-mark-init : goal.loop-mark-init
loop-mark-init c = search all

pub loop-mark-preserved : goal.loop-mark-preserved
loop-mark-preserved c = search all

pub returns : goal.returns
returns c = search all
