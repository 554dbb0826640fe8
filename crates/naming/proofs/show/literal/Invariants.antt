use Rattle.naming.proofs.Showing.{Seeking}
use Rattle.naming.proofs.show.literal.Given as goal

abbrev pub invariant-loop-at : goal.invariant-loop-at
invariant-loop-at l = Seeking l.own l.number l.left l.at
