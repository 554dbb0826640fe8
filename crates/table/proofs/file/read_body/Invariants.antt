use Rattle.std.proofs.Common.{◌-◌, length}
use Rattle.table.proofs.Bodies.{Walking}
use Rattle.table.proofs.file.read_body.Given as goal

abbrev pub invariant-loop-at : goal.invariant-loop-at
invariant-loop-at l = Walking l.body l.at l.clauses l.last l.h

abbrev pub decreases-loop-at : goal.decreases-loop-at
decreases-loop-at l = length l.body - l.at
