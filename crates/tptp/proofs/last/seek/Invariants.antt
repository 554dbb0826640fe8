use Rattle.tptp.proofs.Ahead.{Seeking}
use Rattle.tptp.proofs.last.seek.Given as goal

abbrev pub invariant-loop-at : goal.invariant-loop-at
invariant-loop-at l = Seeking l.marks l.from l.sort l.at
