use Rattle.limits.proofs.Counting.{Most}
use Rattle.limits.proofs.find.most_parts.Given as goal

abbrev pub invariant-loop-mark : goal.invariant-loop-mark
invariant-loop-mark l = Most l.marks l.most l.mark-index
