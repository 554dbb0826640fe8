use mathlib.Core.List.{[]}
use Rattle.naming.specs.Shown.{names_in}
use Rattle.tuples.proofs.Walking.{Walking}
use Rattle.tuples.proofs.disjunct.Given as goal

abbrev pub invariant-loop-q : goal.invariant-loop-q
invariant-loop-q l = Walking (names_in l.text l.index []) l.question l.own l.from l.fn.out l.start l.out l.count l.at l.byte l.q-index
