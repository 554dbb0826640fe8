use Rattle.slim.proofs.Marking.{Seeking}
use Rattle.slim.proofs.dropping.lonely.Given as goal

abbrev pub invariant-loop-w : goal.invariant-loop-w
invariant-loop-w l = Seeking l.marks l.words l.w-index
