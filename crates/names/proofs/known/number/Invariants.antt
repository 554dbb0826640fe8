use Rattle.std.proofs.Common.{length}
use Rattle.names.proofs.Counts.{Knowing}
use Rattle.names.proofs.known.number.Given as goal

abbrev pub invariant-loop-i : goal.invariant-loop-i
invariant-loop-i l = Knowing l.text l.starts l.fn.words l.kind l.limit (length l.fn.places) l.words l.places l.count l.i
