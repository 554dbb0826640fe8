use borrow.Author.Rules.{rules}
use Rattle.listing.proofs.Counts.{count_laws}
use Rattle.listing.proofs.counting.count.Goals as goal

ruleset all = (rules, count_laws)

pub loop-word-init : goal.loop-word-init
loop-word-init c = search all

pub loop-word-preserved-in_default : goal.loop-word-preserved-in_default
loop-word-preserved-in_default c = search all

pub bounds-copies-number : goal.bounds-copies-number
bounds-copies-number c = search all

pub bounds-copies-number-in-loop-word : goal.bounds-copies-number-in-loop-word
bounds-copies-number-in-loop-word c = search all

pub loop-word-preserved : goal.loop-word-preserved
loop-word-preserved c = search all

pub returns : goal.returns
returns c = search all
