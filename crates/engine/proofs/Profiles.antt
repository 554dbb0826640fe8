-- What the engine asks of the profiles: which leaves are restarted, and one law, that a leaf is extended exactly where it is not restarted.
use mathlib.Core.Bool.{Bool, true, false, not}
use mathlib.Core.Path.{◌≡◌, refl, sym}
use Rattle.rules.specs.Setting.{profile_of}

pub one_of : (restarts negative : Bool) → (profile_of restarts).restarts negative ≡ false → (profile_of restarts).extends negative ≡ true
one_of true true e = refl
one_of true false e = sym e
one_of false negative e = refl

pub other_of : (restarts negative : Bool) → (profile_of restarts).restarts negative ≡ true → (profile_of restarts).extends negative ≡ false
other_of true true e = sym e
other_of true false e = refl
other_of false negative e = sym e

module _ (restarts negative : Bool) where
  pub restarts_positive : restarts ≡ true → {q : Bool} → q ≡ negative → not q ≡ (profile_of restarts).restarts negative
  restarts_positive t e = rw (t, e)

  pub restarts_none : restarts ≡ false → false ≡ (profile_of restarts).restarts negative
  restarts_none t = rw t
