-- Parts of buffers that are lent.
use mathlib.Core.Path.{◌≡◌}
use mathlib.Core.List.{List}
use Prim.Native.Nat.{ℕ, min}
use native.Mathlib.Omega.{arith}
use lib.ListN.{length, take}
use Rattle.text.proofs.Parts.{part_length}

pub lent : (n x m : ℕ) (ws : List ℕ) → n ≡ min x m → m ≡ length ws → n ≡ length (take n ws)
lent n x m ws e f = part_length n ws (omega arith)
