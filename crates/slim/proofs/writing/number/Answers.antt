use Rattle.std.proofs.Common.{rules}
use Rattle.slim.proofs.Copying.{number_laws}
use Rattle.slim.proofs.writing.number.Goals as goal

pub loop-number-init : goal.loop-number-init
loop-number-init c = search (rules, number_laws)

pub loop-number-preserved-then-not-kept : goal.loop-number-preserved-then-not-kept
loop-number-preserved-then-not-kept c = search (rules, number_laws)

pub loop-number-preserved : goal.loop-number-preserved
loop-number-preserved c = search (rules, number_laws)
