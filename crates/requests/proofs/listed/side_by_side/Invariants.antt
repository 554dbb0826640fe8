use Rattle.std.proofs.Common.{length, ◌+◌, ◌-◌}
use Rattle.requests.specs.Listed.{says}
use Rattle.requests.proofs.Lists.{Running}
use Rattle.requests.proofs.listed.side_by_side.Given as goal

abbrev pub invariant-loop-at : goal.invariant-loop-at
invariant-loop-at g l = Running (says g.T.Listed.read) l.line l.from l.count l.at

abbrev pub decreases-loop-at : goal.decreases-loop-at
decreases-loop-at g l = length l.line + 1 - l.at
