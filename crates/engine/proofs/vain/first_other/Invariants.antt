use Rattle.std.proofs.Common.{◌-◌}
use Rattle.engine.proofs.Nowhere.Seen.{Seeking}
use Rattle.engine.proofs.vain.first_other.Given as goal

abbrev pub invariant-loop-offset : goal.invariant-loop-offset
invariant-loop-offset l = Seeking l.file l.start l.entered l.offset

abbrev pub decreases-loop-offset : goal.decreases-loop-offset
decreases-loop-offset l = 256 - l.offset
