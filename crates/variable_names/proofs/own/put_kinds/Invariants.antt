use Rattle.variable_names.proofs.Walks.{Filling}
use Rattle.variable_names.proofs.own.put_kinds.Given as goal

abbrev pub invariant-loop-i : goal.invariant-loop-i
invariant-loop-i l = Filling l.marks l.words l.i
