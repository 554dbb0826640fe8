use Rattle.names.proofs.Looking.{Looking}
use Rattle.names.proofs.known.find.Given as goal

abbrev pub invariant-loop-n : goal.invariant-loop-n
invariant-loop-n l = Looking l.text l.known l.name l.n
