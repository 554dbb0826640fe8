-- What a conjunction of tests says of each of them, and what a choice says of its test.
use mathlib.Core.Path.{◌≡◌, refl}
use mathlib.Core.Bool.{Bool, true, false, cond, not, ◌&&◌}
use mathlib.Core.Option.{Option, none, some}
use Prim.Native.Nat.{ℕ}

pub and_left : (a b : Bool) → (a && b) ≡ true → a ≡ true
and_left true b e = refl
and_left false b e = e

pub and_right : (a b : Bool) → (a && b) ≡ true → b ≡ true
and_right true b e = e
and_right false b e = cc

pub not_true : (a : Bool) → not a ≡ true → a ≡ false
not_true true e = cc
not_true false e = refl

pub not_false : (a : Bool) → not a ≡ false → a ≡ true
not_false true e = refl
not_false false e = cc

-- a choice that ends in no fault, where the other side is one
pub cond_none : (b : Bool) (x : Option ℕ) (place : ℕ) → cond b x (some place) ≡ none → (b ≡ true) × (x ≡ none)
cond_none true x place e = (refl, e)
cond_none false x place e = (cc, cc)
