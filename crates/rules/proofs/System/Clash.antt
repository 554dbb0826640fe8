-- Anything follows where two different constructors are equal: `clash cc`.
use mathlib.Core.Path.{◌≡◌}
use Prim.Native.Nat.{ℕ}
use native.Mathlib.Omega.{arith}

pub clash {ℓ} : {A : Type ℓ} → ◌≡◌ {A = ℕ} 0 1 → A
clash z = absurd (omega arith)
