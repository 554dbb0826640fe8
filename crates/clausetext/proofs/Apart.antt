-- From an equation of two Booleans that differ, anything.
use mathlib.Core.Path.{◌≡◌}
use mathlib.Core.Bool.{true, false}
use Prim.Native.Nat.{ℕ}
use native.Mathlib.Omega.{arith}

pub false_not_true : {A : Type 0} → false ≡ true → A
false_not_true e = let z : ◌≡◌ {A = ℕ} 0 1 = cc in absurd (omega arith)

pub true_not_false : {A : Type 0} → true ≡ false → A
true_not_false e = let z : ◌≡◌ {A = ℕ} 0 1 = cc in absurd (omega arith)
