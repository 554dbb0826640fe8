use Prim.Native.Nat.{◌-◌}
use lib.ListN.{length}
use Rattle.archivist.proofs.reporting.ask_all.Given as goal

abbrev pub decreases-loop-at : goal.decreases-loop-at
decreases-loop-at l = length l.questions - l.at
