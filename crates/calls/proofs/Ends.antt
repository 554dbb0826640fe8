-- Where a line ends in what was read.
use mathlib.Core.Path.{◌≡◌}
use mathlib.Core.List.{List}
use Prim.Native.Nat.{ℕ, ◌+◌, ◌≤◌, ◌<◌}
use native.Mathlib.Omega.{arith}
use lib.ListN.{length, drop, length-drop}
use Rattle.requests.specs.Pieces.{up_to}
use Rattle.requests.proofs.Lists.{front_length}

module _ (chunk : List ℕ) (at mark : ℕ) {end : ℕ} (e : end ≡ at + length (up_to mark (drop at chunk))) (h : at < length chunk) where
  pub line_within : end ≤ length chunk
  line_within = omega (arith, front_length mark (drop at chunk), length-drop at chunk)

  pub line_begins : at ≤ end
  line_begins = omega arith
