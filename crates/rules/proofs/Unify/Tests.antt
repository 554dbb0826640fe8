-- Tests of variables, and of one variable in a term.
use borrow.Author.Tests.{eqb-true, eq-eqb}
use mathlib.Core.Bool.{Bool, true, false, ◌&&◌, ◌||◌}
use mathlib.Core.Path.{◌≡◌, refl, sym, ◌∙◌, ap, ap₂}
use native.Mathlib.Omega.{arith}
use Prim.Native.Nat.{ℕ}
use lib.Dec.{eqb}
use Rattle.rules.specs.Substitution.{Variable, same_variable}

pub decide : {A : Type 0} (b : Bool) → (b ≡ true → A) → (b ≡ false → A) → A
decide true yes' no' = yes' refl
decide false yes' no' = no' refl

pub never : {b : Bool} → b ≡ true → b ≡ false → ⊥
never p q = let z : ◌≡◌ {A = ℕ} 0 1 = cc in omega arith

pub and_left : (a b : Bool) → a && b ≡ true → a ≡ true
and_left true b e = refl
and_left false b e = e

pub and_right : (a b : Bool) → a && b ≡ true → b ≡ true
and_right true b e = e
and_right false b e = absurd (never e refl)

pub or_left : (a b : Bool) → a || b ≡ false → a ≡ false
or_left true b e = e
or_left false b e = refl

pub or_right : (a b : Bool) → a || b ≡ false → b ≡ false
or_right true b e = absurd (never refl e)
or_right false b e = e

pub same_true : (x y : Variable) → same_variable x y ≡ true → x ≡ y
same_true x y e = λ i. record { copy = copies i; number = numbers i }
  where
    copies : x.copy ≡ y.copy
    copies = eqb-true _ _ (and_left (eqb x.copy y.copy) _ e)

    numbers : x.number ≡ y.number
    numbers = eqb-true _ _ (and_right (eqb x.copy y.copy) _ e)

pub same_refl : (x : Variable) → same_variable x x ≡ true
same_refl x = ap₂ ◌&&◌ (eq-eqb x.copy _ refl) (eq-eqb x.number _ refl)

pub same_false : (x y : Variable) → same_variable x y ≡ false → x ≡ y → ⊥
same_false x y e p = never (same_refl y) (ap (λ (z : Variable). same_variable z y) (sym p) ∙ e)

pub differ : (x y : Variable) → (x ≡ y → ⊥) → same_variable x y ≡ false
differ x y h = decide (same_variable x y) (λ e. absurd (h (same_true x y e))) (λ e. e)

pub same_sym : (x y : Variable) → same_variable x y ≡ same_variable y x
same_sym x y =
    decide
    (same_variable x y)
    (λ e. e ∙ sym (ap (λ (z : Variable). same_variable y z) (same_true x y e) ∙ same_refl y))
    (λ e. e ∙ sym (differ y x (λ p. same_false x y e (sym p))))
