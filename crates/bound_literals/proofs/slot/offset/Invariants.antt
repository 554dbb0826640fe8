use Rattle.bound_literals.proofs.Seeking.{Seeking}
use Rattle.bound_literals.proofs.slot.offset.Given as goal

abbrev pub invariant-loop-offset : goal.invariant-loop-offset
invariant-loop-offset l = Seeking l.file l.work l.copy l.fn.number l.count l.offset l.left
