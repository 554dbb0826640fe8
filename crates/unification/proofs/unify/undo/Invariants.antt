use Rattle.std.proofs.Common.{List, ℕ}
use Rattle.unification.specs.Good.{Good}
use Rattle.unification.proofs.Undo.{Popped}
use Rattle.unification.proofs.unify.undo.Given as goal

abbrev pub invariant-loop-i : goal.invariant-loop-i
invariant-loop-i l = (f : List ℕ) → Good f l.fn.work → Popped f l.fn.work l.work l.kept l.i
