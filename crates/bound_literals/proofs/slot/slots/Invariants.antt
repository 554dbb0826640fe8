use Rattle.bound_literals.specs.Held.{words_held}
use Rattle.bound_literals.proofs.Slots.{Slotting}
use Rattle.bound_literals.proofs.slot.slots.Given as goal

abbrev pub invariant-loop-i : goal.invariant-loop-i
invariant-loop-i l = Slotting (words_held l.file l.work) l.fn.out l.out l.at l.i
