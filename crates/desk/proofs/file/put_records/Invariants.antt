use lib.ListN.{length}
use Prim.Native.Nat.{◌-◌}
use Rattle.desk.proofs.Writing.{Writes}
use Rattle.desk.proofs.file.put_records.Given as goal

abbrev pub invariant-loop-i : goal.invariant-loop-i
invariant-loop-i l = Writes l.fn.records l.fn.file l.at l.i l.file

abbrev pub decreases-loop-i : goal.decreases-loop-i
decreases-loop-i l = length l.records - l.i
