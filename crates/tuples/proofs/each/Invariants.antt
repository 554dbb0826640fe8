use mathlib.Core.List.{[]}
use Rattle.naming.specs.Shown.{names_in}
use Rattle.tuples.proofs.Walking.{Telling}
use Rattle.tuples.proofs.each.Given as goal

abbrev pub invariant-loop-done : goal.invariant-loop-done
invariant-loop-done l = Telling (names_in l.text l.index []) l.disjuncts l.question l.own l.fn.out l.start l.out l.at l.byte l.done
