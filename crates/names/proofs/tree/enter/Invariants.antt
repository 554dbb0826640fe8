use Rattle.names.proofs.Marking.{Entering}
use Rattle.names.proofs.tree.enter.Given as goal

abbrev pub invariant-loop-c : goal.invariant-loop-c
invariant-loop-c l = Entering l.fn.memory l.c-items l.count l.memory l.stem l.stems l.c-index
