use Rattle.std.proofs.Common.{◌-◌, length}
use Rattle.limits.proofs.Finding.{Searching}
use Rattle.limits.proofs.find.find_in.Given as goal

abbrev pub invariant-loop-at : goal.invariant-loop-at
invariant-loop-at l = Searching l.text l.marks l.places l.stated l.asked l.at

abbrev pub decreases-loop-at : goal.decreases-loop-at
decreases-loop-at l = length l.marks - l.at
