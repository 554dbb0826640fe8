use lib.ListN.{drop}
use lib.Seq.{paste}
use Rattle.std.proofs.Common.{◌≡◌}
use Rattle.unification.specs.Places.{step_places}
use Rattle.hukolearu.proofs.calls.copy_steps.Given as goal

abbrev pub invariant-loop-i : goal.invariant-loop-i
invariant-loop-i l = l.proof ≡ paste l.fn.proof 0 (drop step_places l.work) l.i
