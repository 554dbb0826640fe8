use Rattle.names.proofs.Same.{Alike}
use Rattle.names.proofs.name.same.Given as goal

abbrev pub invariant-loop-here : goal.invariant-loop-here
invariant-loop-here l = Alike l.text l.one l.other l.here l.there
