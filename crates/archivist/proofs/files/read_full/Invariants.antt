use Prim.Native.Nat.{◌≤◌}
use lib.ListN.{length}
use Rattle.archivist.proofs.files.read_full.Given as goal

abbrev pub invariant-loop : goal.invariant-loop
invariant-loop l = l.done ≤ length l.text
