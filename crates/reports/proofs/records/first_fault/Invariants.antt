use Rattle.std.proofs.Common.{◌-◌, length}
use Rattle.reports.proofs.Lining.{Faulty}
use Rattle.reports.proofs.records.first_fault.Given as goal

abbrev pub invariant-loop-at : goal.invariant-loop-at
invariant-loop-at l = Faulty l.text l.at

abbrev pub decreases-loop-at : goal.decreases-loop-at
decreases-loop-at l = length l.text - l.at
