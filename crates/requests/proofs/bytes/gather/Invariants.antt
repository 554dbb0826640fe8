use Rattle.std.proofs.Common.{length, drop, ◌-◌}
use Rattle.text.proofs.Putting.{Left}
use Rattle.requests.specs.Bytes.{bytes_of}
use Rattle.requests.proofs.bytes.gather.Given as goal

abbrev pub invariant-loop-at : goal.invariant-loop-at
invariant-loop-at l = Left l.initial.out 0 (bytes_of (drop l.from l.line)) l.out l.used (bytes_of (drop l.at l.line))

abbrev pub decreases-loop-at : goal.decreases-loop-at
decreases-loop-at l = length l.line - l.at
