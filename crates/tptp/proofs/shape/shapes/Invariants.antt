use Rattle.tptp.proofs.Shaping.{Shaping}
use Rattle.tptp.proofs.shape.shapes.Given as goal

abbrev pub invariant-loop-i : goal.invariant-loop-i
invariant-loop-i l = Shaping l.marks l.fn.words l.words l.i
