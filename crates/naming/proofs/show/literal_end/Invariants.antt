use Rattle.naming.proofs.Showing.{Ending}
use Rattle.naming.proofs.show.literal_end.Given as goal

abbrev pub invariant-loop-at : goal.invariant-loop-at
invariant-loop-at l = Ending l.own l.from l.at
