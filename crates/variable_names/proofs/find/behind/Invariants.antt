use Rattle.variable_names.proofs.Walks.{Passing}
use Rattle.variable_names.proofs.find.behind.Given as goal

abbrev pub invariant-loop-at : goal.invariant-loop-at
invariant-loop-at l = Passing l.marks l.sort l.number l.left l.at
