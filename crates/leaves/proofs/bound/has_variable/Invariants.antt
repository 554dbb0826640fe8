use Rattle.std.proofs.Common.{◌≡◌, drop}
use Rattle.leaves.specs.Bound.{has_variable}
use Rattle.leaves.proofs.bound.has_variable.Given as goal

abbrev pub invariant-loop-w : goal.invariant-loop-w
invariant-loop-w l = has_variable (drop l.w-index l.own) ≡ has_variable l.own
