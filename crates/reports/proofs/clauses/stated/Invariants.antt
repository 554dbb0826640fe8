use Rattle.std.proofs.Common.{◌-◌, drop, false, length}
use Rattle.text.proofs.Putting.{Left}
use Rattle.reports.specs.Clauses.{clauses_from, all_stated, stated_text}
use Rattle.reports.proofs.clauses.stated.Given as goal

abbrev pub invariant-loop-at : goal.invariant-loop-at
invariant-loop-at l = Left l.fn.out 0 (stated_text l.text) l.out l.used (all_stated (clauses_from false (drop l.at l.text)))

abbrev pub decreases-loop-at : goal.decreases-loop-at
decreases-loop-at l = length l.text - l.at
