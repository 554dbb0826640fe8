-- How heavy a term is under bindings: a variable is heavier than its value, and no lighter than what stands in its place.
use mathlib.Core.Bool.{Bool, true, false, cond}
use mathlib.Core.List.{[], ◌∷◌}
use mathlib.Core.Option.{some}
use mathlib.Core.Path.{◌≡◌, refl, ap}
use native.Mathlib.Omega.{arith}
use Prim.Native.Nat.{ℕ, zero, suc, ◌+◌, ◌*◌, ◌≤◌, ◌<◌}
use lib.ListN.{length}
use Rattle.table.specs.Syntax.{Term, var, app, under, unders}
use Rattle.rules.specs.Substitution.{Variable, same_variable}
use Rattle.rules.specs.Machinery.Unify.{Bindings, solution, height, height_among, variables, variables_among}
use Rattle.rules.proofs.Unify.Tests.{or_left, or_right}
use Rattle.rules.proofs.Unify.Solution.{is_bound, Followed, Good}
use Rattle.rules.proofs.Unify.Following.{value_of, solution_value, onward, distance, distance_falls}
use Rattle.unification.proofs.TermLists.{All, all_map, among_height}

-- how many bindings can still be followed
unfoldable pub rank_of : Bindings → Term Variable → ℕ
rank_of bs (var x) = distance bs x
rank_of bs (app f ts) = 0

onward_le : (n m : ℕ) → n ≤ m → onward n ≤ suc m
unfolding onward
onward_le zero m h = omega arith
onward_le (suc n) m h = omega arith

onward_some : (n : ℕ) → 0 < n → 0 < onward n
unfolding onward
onward_some zero h = h
onward_some (suc n) h = omega arith

distance_le : (bs : Bindings) (x : Variable) → distance bs x ≤ length bs
unfolding distance
distance_le [] x = omega arith
distance_le (b ∷ bs) x = go (same_variable b.variable x) (distance_le bs x)
  where
    go : (c : Bool) → distance bs x ≤ length bs → cond c 1 (onward (distance bs x)) ≤ suc (length bs)
    go true h = omega arith
    go false h = onward_le _ _ h

distance_some : (bs : Bindings) (x : Variable) (v : Term Variable) → value_of bs x ≡ some v → 0 < distance bs x
unfolding distance value_of
distance_some [] x v e = absurd (let z : ◌≡◌ {A = ℕ} 0 1 = cc in omega arith)
distance_some (b ∷ bs) x v e = go (same_variable b.variable x) (distance_some bs x v) e
  where
    go : (c : Bool) → (value_of bs x ≡ some v → 0 < distance bs x) → cond c (some b.value) (value_of bs x) ≡ some v → 0 < cond c 1 (onward (distance bs x))
    go true ih e = omega arith
    go false ih e = onward_some _ (ih e)

-- the value of a variable has a lower rank
pub value_falls : (bs : Bindings) → Good bs → (x : Variable) (v : Term Variable) → value_of bs x ≡ some v → rank_of bs v < distance bs x
unfolding rank_of
value_falls bs g x (var y) e = distance_falls bs x y g e
value_falls bs g x (app f ts) e = distance_some bs x (app f ts) e

-- how heavy a term is: its height under the bindings, and then its rank
unfoldable pub weight : Bindings → Term Variable → ℕ
weight bs t = height (under (solution bs) t) * 1024 + rank_of bs t

pub value_lighter : (bs : Bindings) → Good bs → (x : Variable) (v : Term Variable) → value_of bs x ≡ some v → weight bs v < weight bs (var x)
unfolding weight under rank_of
value_lighter bs g x v e = omega (arith, ap height (solution_value bs x v g e), value_falls bs g x v e)

-- a term that was followed is no heavier than the others that are one with it under the bindings
distance_none : (bs : Bindings) (x : Variable) → is_bound bs x ≡ false → distance bs x ≡ 0
unfolding distance is_bound onward
distance_none [] x e = refl
distance_none (b ∷ bs) x e = rw (or_left (same_variable b.variable x) _ e, distance_none bs x (or_right (same_variable b.variable x) _ e)) refl

rank_none : (bs : Bindings) (t : Term Variable) → Followed bs t → rank_of bs t ≡ 0
unfolding Followed rank_of
rank_none bs (var x) e = distance_none bs x e
rank_none bs (app f ts) e = refl

pub followed_lighter : (bs : Bindings) (t u : Term Variable) → Followed bs t → under (solution bs) t ≡ under (solution bs) u → weight bs t ≤ weight bs u
unfolding weight
followed_lighter bs t u d e = omega (arith, ap height e, rank_none bs t d)

-- no variable of a term is heavier than the term
pub variables_lighter : (bs : Bindings) → length bs < 1024 → (t : Term Variable) → All (λ y. weight bs (var y) ≤ weight bs t) (variables t)
unfolding weight under rank_of variables All height
variables_lighter bs l (var x) = (omega arith, tt)
variables_lighter bs l (app f ts) =
    all_map (variables_among ts) (λ y h. omega (arith, h, distance_le bs y)) (among_height ts (solution bs) (height_among (unders (solution bs) ts)) (omega arith))
