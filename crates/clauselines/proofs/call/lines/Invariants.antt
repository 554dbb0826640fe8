use Rattle.std.proofs.Common.{◌-◌}
use Rattle.clauselines.proofs.Walks.{Walking}
use Rattle.clauselines.proofs.call.lines.Given as goal

abbrev pub invariant-loop-at : goal.invariant-loop-at
invariant-loop-at l = Walking l.file l.question l.at l.number l.fn.out l.out l.end

abbrev pub decreases-loop-at : goal.decreases-loop-at
decreases-loop-at l = l.question - l.at
