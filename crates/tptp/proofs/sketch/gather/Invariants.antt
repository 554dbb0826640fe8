use Rattle.std.proofs.Common.{length, ◌-◌}
use Rattle.tptp.proofs.Walk.{Going}
use Rattle.tptp.proofs.sketch.gather.Given as goal

abbrev pub invariant-loop-lexeme : goal.invariant-loop-lexeme
invariant-loop-lexeme l = Going l.text l.marks l.places l.inner l.p l.at

abbrev pub decreases-loop-lexeme : goal.decreases-loop-lexeme
decreases-loop-lexeme l = length l.text - l.at
