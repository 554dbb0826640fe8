use Rattle.leaves.proofs.Binding.{CountingCopies}
use Rattle.leaves.proofs.bound.copy_number.Given as goal

abbrev pub invariant-loop-i : goal.invariant-loop-i
invariant-loop-i l = CountingCopies l.steps l.number l.count l.i
