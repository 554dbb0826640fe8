use Rattle.std.proofs.Common.{◌-◌, drop, length}
use Rattle.text.proofs.Putting.{Left}
use Rattle.reports.specs.Records.{lines_of, words_said}
use Rattle.reports.proofs.records.gather.Given as goal

abbrev pub invariant-loop-at : goal.invariant-loop-at
invariant-loop-at l = Left l.fn.out 0 (words_said (lines_of l.text)) l.out l.used (words_said (lines_of (drop l.at l.text)))

abbrev pub decreases-loop-at : goal.decreases-loop-at
decreases-loop-at l = length l.text - l.at
