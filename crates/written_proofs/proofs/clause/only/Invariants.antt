use Rattle.written_proofs.proofs.Names.{Sought}
use Rattle.written_proofs.proofs.clause.only.Given as goal

abbrev pub invariant-loop-i : goal.invariant-loop-i
invariant-loop-i l = Sought l.text l.places l.own l.i
