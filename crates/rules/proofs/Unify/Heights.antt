-- Heights of terms under substitutions: no term equals one that holds it, and bindings of low terms have low solutions.
use lib.ListN.{length}
use mathlib.Core.Bool.{Bool, true, false, cond, ◌||◌}
use mathlib.Core.List.{[], ◌∷◌}
use mathlib.Core.Path.{◌≡◌, sym, ◌∙◌, ap}
use native.Mathlib.Omega.{arith}
use Prim.Native.Nat.{ℕ, zero, suc, ◌+◌, ◌-◌, ◌≤◌, ◌<◌}
use Rattle.table.specs.Syntax.{Term, Terms, var, app, nil, ◌then◌, under, unders}
use Rattle.rules.specs.Substitution.{Variable, Substitution, same_variable}
use Rattle.rules.specs.Machinery.Unify.{Bindings, replace, solution, occurs, occurs_among, height, height_among, doubled}
use Rattle.rules.proofs.Unify.Tests.{decide, same_true}

mutual
  unfolding height under

  pub height_under : (t : Term Variable) (σ : Substitution) (m : ℕ) → ((x : Variable) → height (σ x) ≤ m) → height (under σ t) ≤ height t + m
  height_under (var x) σ m h = omega (arith, h x)
  height_under (app f ts) σ m h = heights_under ts σ m h

  pub heights_under : (ts : Terms Variable) (σ : Substitution) (m : ℕ) → ((x : Variable) → height (σ x) ≤ m)
      → height_among (unders σ ts) ≤ height_among ts + m
  heights_under nil σ m h = omega arith
  heights_under (t then ts) σ m h = omega (arith, height_under t σ m h, heights_under ts σ m h)

mutual
  unfolding height under occurs

  occurs_height : (t : Term Variable) (x : Variable) (σ : Substitution) → occurs x t ≡ true → height (σ x) ≤ height (under σ t)
  occurs_height (var y) x σ e = omega (arith, ap (λ (z : Variable). height (σ z)) (same_true x y e))
  occurs_height (app f ts) x σ e = omega (arith, occurs_heights ts x σ e)

  occurs_heights : (ts : Terms Variable) (x : Variable) (σ : Substitution) → occurs_among x ts ≡ true → height (σ x) < height_among (unders σ ts)
  occurs_heights nil x σ e = let z : ◌≡◌ {A = ℕ} 0 1 = cc in omega arith
  occurs_heights (t then ts) x σ e =
      decide
      (occurs x t)
      (λ c. omega (arith, occurs_height t x σ c))
      (λ c. omega (arith, occurs_heights ts x σ (ap (λ (b : Bool). b || occurs_among x ts) (sym c) ∙ e)))

-- a variable never equals an application that holds it
pub no_circle : (σ : Substitution) (x : Variable) (f : ℕ) (ts : Terms Variable) → occurs x (app f ts) ≡ true → σ x ≡ under σ (app f ts) → ⊥
unfolding height under occurs
no_circle σ x f ts o e = omega (arith, occurs_heights ts x σ o, ap height e)

-- the solution of bindings to terms of a height
unfoldable pub Low : ℕ → Bindings → Type 0
Low h [] = Unit {0}
Low h (b ∷ bs) = (height b.value ≤ h) × Low h bs

height_replace : (x : Variable) (u : Term Variable) (y : Variable) → height (replace x u y) ≤ height u
unfolding replace height
height_replace x u y = go (same_variable x y)
  where
    go : (c : Bool) → height (cond c u (var y)) ≤ height u
    go true = omega arith
    go false = omega arith

pub solution_height : (bs : Bindings) (h : ℕ) → Low h bs → (x : Variable) → height (solution bs x) + h ≤ doubled (length bs) h
unfolding solution Low doubled height
solution_height [] h l x = omega arith
solution_height (b ∷ bs) h l x = go (solution_height bs h l.1)
  where
    u : Term Variable
    u = under (solution bs) b.value

    go : ((y : Variable) → height (solution bs y) + h ≤ doubled (length bs) h)
        → height (under (replace b.variable u) (solution bs x)) + h ≤ doubled (length bs) h + doubled (length bs) h
    go older =
        omega
        (arith, l.0, older x, height_under (solution bs x) (replace b.variable u) (height u) (height_replace b.variable u), resolved)
      where
        resolved : height u + h ≤ h + doubled (length bs) h
        resolved =
            let r = height_under b.value (solution bs) (doubled (length bs) h - h) (λ y. omega (arith, older y)) in
            omega (arith, r, l.0, older x)

doubled_least : (n h : ℕ) → h ≤ doubled n h
unfolding doubled
doubled_least zero h = omega arith
doubled_least (suc n) h = omega (arith, doubled_least n h)

pub doubled_mono : (k n h : ℕ) → k ≤ n → doubled k h ≤ doubled n h
unfolding doubled
doubled_mono zero n h l = doubled_least n h
doubled_mono (suc k) zero h l = omega arith
doubled_mono (suc k) (suc n) h l = omega (arith, doubled_mono k n h (omega arith))
