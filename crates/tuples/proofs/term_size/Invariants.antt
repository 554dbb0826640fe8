use Rattle.tuples.proofs.Walking.{Spanning}
use Rattle.tuples.proofs.term_size.Given as goal

abbrev pub invariant-loop-at : goal.invariant-loop-at
invariant-loop-at l = Spanning l.own l.terms l.at
