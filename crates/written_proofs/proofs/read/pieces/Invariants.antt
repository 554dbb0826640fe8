use Rattle.std.proofs.Common.{length, ◌-◌}
use Rattle.written_proofs.specs.Steps.{names_of}
use Rattle.written_proofs.proofs.Pieces.{Going}
use Rattle.written_proofs.proofs.read.pieces.Given as goal

abbrev pub invariant-loop-at : goal.invariant-loop-at
invariant-loop-at l = Going (names_of l.text l.places) l.said l.fn.steps l.steps l.used l.at l.awaited

abbrev pub decreases-loop-at : goal.decreases-loop-at
decreases-loop-at l = length l.said - l.at
