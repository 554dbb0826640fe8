use Rattle.limits.proofs.Counting.{Filling}
use Rattle.limits.proofs.find.put_kinds.Given as goal

abbrev pub invariant-loop-i : goal.invariant-loop-i
invariant-loop-i l = Filling l.marks l.words l.i
