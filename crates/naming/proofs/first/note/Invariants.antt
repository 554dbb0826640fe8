use Rattle.naming.proofs.FirstUses.{Going}
use Rattle.naming.proofs.first.note.Given as goal

abbrev pub invariant-loop-i : goal.invariant-loop-i
invariant-loop-i l = Going l.words l.places l.kind l.fn.out l.out l.count l.i
