use Rattle.std.proofs.Common.{◌-◌}
use Rattle.engine.proofs.Checker.Walks.{Numbering}
use Rattle.engine.proofs.walk.offset_of.Given as goal

abbrev pub invariant-loop-here : goal.invariant-loop-here
invariant-loop-here l = Numbering l.file l.start l.literal l.offset l.left

abbrev pub decreases-loop-here : goal.decreases-loop-here
decreases-loop-here l = 256 - l.offset
