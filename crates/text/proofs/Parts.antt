-- Parts of a list at its front and at its end.
use mathlib.Core.Path.{◌≡◌, sym}
use mathlib.Core.List.{List}
use Prim.Native.Nat.{ℕ, ◌-◌, ◌≤◌}
use native.Mathlib.Omega.{arith}
use lib.ListN.{length, take, drop, drop_of_length-le, length-drop}
use lib.Seq.{take_all, length-take-le}

module _ (n : ℕ) (ws : List ℕ) where
  pub part_from : take (length ws - n) (drop n ws) ≡ drop n ws
  part_from = take_all (length ws - n) (drop n ws) (simp length-drop (omega arith))

  pub part_length : n ≤ length ws → n ≡ length (take n ws)
  part_length h = sym (length-take-le n ws h)

  pub whole_part : length ws ≤ n → ws ≡ take n ws
  whole_part h = sym (take_all n ws h)

  pub no_part : length ws ≤ n → take (0 - 0) (drop 0 ws) ≡ drop n ws
  no_part h = sym (drop_of_length-le ws h)

pub ruleset part_laws = (part_from, part_length, whole_part, no_part)
