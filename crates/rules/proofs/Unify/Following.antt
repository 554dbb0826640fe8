-- Following one binding at a time: the value of a variable, and how far it is to the end.
use mathlib.Core.Bool.{Bool, true, false, cond, ◌||◌}
use mathlib.Core.List.{[], ◌∷◌}
use mathlib.Core.Option.{Option, none, some}
use mathlib.Core.Path.{◌≡◌, refl, sym, ◌∙◌, ap, subst}
use native.Mathlib.Omega.{arith}
use Prim.Native.Nat.{ℕ, zero, suc, ◌<◌}
use Rattle.table.specs.Syntax.{Term, Terms, var, app, ◌then◌, under, unders}
use Rattle.rules.specs.Substitution.{Variable, Substitution, same_variable}
use Rattle.rules.specs.Machinery.Unify.{Binding, Bindings, solution, through, follow, occurs, occurs_among}
use Rattle.rules.proofs.Unify.Tests.{or_left, or_right, same_true, same_refl}
use Rattle.rules.proofs.Unify.Solution.{Satisfies, is_bound, Followed, Fresh, Good, solution_satisfies, unbound_solution, followed_more, follow_unbound, follow_stays, follow_solution}

-- the value of a variable
unfoldable pub value_of : Bindings → Variable → Option (Term Variable)
value_of [] x = none
value_of (b ∷ bs) x = cond (same_variable b.variable x) (some b.value) (value_of bs x)

pub value_of_none : (bs : Bindings) (x : Variable) → value_of bs x ≡ none → is_bound bs x ≡ false
unfolding value_of is_bound
value_of_none [] x e = refl
value_of_none (b ∷ bs) x e = go (same_variable b.variable x) (value_of_none bs x) e
  where
    go : (c : Bool) → (value_of bs x ≡ none → is_bound bs x ≡ false) → cond c (some b.value) (value_of bs x) ≡ none → c || is_bound bs x ≡ false
    go true ih e = cc
    go false ih e = ih e

pub satisfies_value : (σ : Substitution) (bs : Bindings) (x : Variable) (v : Term Variable) → Satisfies σ bs → value_of bs x ≡ some v → σ x ≡ under σ v
unfolding value_of Satisfies
satisfies_value σ [] x v h e = cc
satisfies_value σ (b ∷ bs) x v h e = go (same_variable b.variable x) refl (satisfies_value σ bs x v h.1) e
  where
    go : (c : Bool) → same_variable b.variable x ≡ c → (value_of bs x ≡ some v → σ x ≡ under σ v)
        → cond c (some b.value) (value_of bs x) ≡ some v → σ x ≡ under σ v
    go true s ih e = let k : b.variable ≡ x = same_true _ _ s in cc h.0
    go false s ih e = ih e

pub solution_value : (bs : Bindings) (x : Variable) (v : Term Variable) → Good bs → value_of bs x ≡ some v → solution bs x ≡ under (solution bs) v
solution_value bs x v g e = satisfies_value (solution bs) bs x v (solution_satisfies bs g) e

through_newest : (b : Binding) (bs : Bindings) (x : Variable) → Fresh b bs → b.variable ≡ x → follow (b ∷ bs) (var x) ≡ follow (b ∷ bs) b.value
unfolding follow through
through_newest b bs x f k =
    ap (λ (z : Variable). through b (follow bs (var z))) (sym k)
    ∙ ap (through b) (follow_unbound bs b.variable f.unbound)
    ∙ ap (λ (c : Bool). cond c b.value (var b.variable)) (same_refl b.variable)
    ∙ sym (follow_stays (b ∷ bs) b.value (followed_more b bs b.value f.followed f.apart))

pub follow_value : (bs : Bindings) (x : Variable) (v : Term Variable) → Good bs → value_of bs x ≡ some v → follow bs (var x) ≡ follow bs v
unfolding value_of Good follow
follow_value [] x v g e = cc
follow_value (b ∷ bs) x v g e = go (same_variable b.variable x) refl (follow_value bs x v g.1) e
  where
    go : (c : Bool) → same_variable b.variable x ≡ c → (value_of bs x ≡ some v → follow bs (var x) ≡ follow bs v)
        → cond c (some b.value) (value_of bs x) ≡ some v → follow (b ∷ bs) (var x) ≡ follow (b ∷ bs) v
    go true s ih e = through_newest b bs x g.0 (same_true _ _ s) ∙ ap (follow (b ∷ bs)) (let z : b.value ≡ v = cc in z)
    go false s ih e = ap (through b) (ih e)

-- how many bindings, from a variable's own up to the newest, can still be followed; none where it is not bound
unfoldable pub onward : ℕ → ℕ
onward zero = zero
onward (suc n) = suc (suc n)

unfoldable pub distance : Bindings → Variable → ℕ
distance [] x = zero
distance (b ∷ bs) x = cond (same_variable b.variable x) 1 (onward (distance bs x))

onward_le : (m n : ℕ) → m < n → onward m < onward n
unfolding onward
onward_le zero zero l = l
onward_le zero (suc n) l = omega arith
onward_le (suc m) zero l = omega arith
onward_le (suc m) (suc n) l = omega arith

onward_two : (m n : ℕ) → m < n → 1 < onward n
unfolding onward
onward_two m zero l = omega arith
onward_two m (suc n) l = omega arith

distance_unbound : (bs : Bindings) (x : Variable) → is_bound bs x ≡ false → distance bs x ≡ zero
unfolding distance is_bound onward
distance_unbound [] x e = refl
distance_unbound (b ∷ bs) x e =
    ap (λ (c : Bool). cond c 1 (onward (distance bs x))) (or_left (same_variable b.variable x) _ e)
    ∙ ap onward (distance_unbound bs x (or_right (same_variable b.variable x) _ e))

distance_here : (b : Binding) (bs : Bindings) (x : Variable) → same_variable b.variable x ≡ true → distance (b ∷ bs) x ≡ 1
unfolding distance
distance_here b bs x s = ap (λ (c : Bool). cond c 1 (onward (distance bs x))) s

distance_there : (b : Binding) (bs : Bindings) (x : Variable) → same_variable b.variable x ≡ false → distance (b ∷ bs) x ≡ onward (distance bs x)
unfolding distance
distance_there b bs x s = ap (λ (c : Bool). cond c 1 (onward (distance bs x))) s

distance_step : (b : Binding) (bs : Bindings) (y : Variable) (n : ℕ) → distance bs y < n → distance (b ∷ bs) y < onward n
unfolding distance
distance_step b bs y n l = go (same_variable b.variable y)
  where
    go : (c : Bool) → cond c 1 (onward (distance bs y)) < onward n
    go true = onward_two (distance bs y) n l
    go false = onward_le (distance bs y) n l

distance_newest : (b : Binding) (bs : Bindings) (y : Variable) → Fresh b bs → b.value ≡ var y → distance (b ∷ bs) y ≡ zero
unfolding Followed
distance_newest b bs y f e =
    distance_unbound (b ∷ bs) y (subst (Followed (b ∷ bs)) e (followed_more b bs b.value f.followed f.apart))

-- the value of a variable is nearer to the end
pub distance_falls : (bs : Bindings) (x y : Variable) → Good bs → value_of bs x ≡ some (var y) → distance bs y < distance bs x
unfolding value_of Good
distance_falls [] x y g e = let z : ◌≡◌ {A = ℕ} 0 1 = cc in omega arith
distance_falls (b ∷ bs) x y g e = go (same_variable b.variable x) refl (distance_falls bs x y g.1) e
  where
    go : (c : Bool) → same_variable b.variable x ≡ c → (value_of bs x ≡ some (var y) → distance bs y < distance bs x)
        → cond c (some b.value) (value_of bs x) ≡ some (var y)
        → distance (b ∷ bs) y < distance (b ∷ bs) x
    go true s ih e =
        let v : b.value ≡ var y = cc in
        omega (arith, distance_newest b bs y g.0 v, distance_here b bs x s)
    go false s ih e = rw (distance_there b bs x s) (distance_step b bs y (distance bs x) (ih e))

-- whether a variable occurs in a term under the bindings
pub occurs_followed : (bs : Bindings) (x : Variable) (t : Term Variable) → Good bs
    → occurs x (under (solution bs) (follow bs t)) ≡ occurs x (under (solution bs) t)
occurs_followed bs x t g = ap (occurs x) (follow_solution bs t g)

pub occurs_value : (bs : Bindings) (x y : Variable) (v : Term Variable) → Good bs → value_of bs y ≡ some v
    → occurs x (under (solution bs) (var y)) ≡ occurs x (under (solution bs) v)
unfolding under
occurs_value bs x y v g e = ap (occurs x) (solution_value bs y v g e)

pub occurs_free : (bs : Bindings) (x y : Variable) → is_bound bs y ≡ false → occurs x (under (solution bs) (var y)) ≡ same_variable x y
unfolding under occurs
occurs_free bs x y e = ap (occurs x) (unbound_solution bs y e)

pub occurs_applied : (bs : Bindings) (x : Variable) (f : ℕ) (ts : Terms Variable)
    → occurs x (under (solution bs) (app f ts)) ≡ occurs_among x (unders (solution bs) ts)
unfolding under occurs
occurs_applied bs x f ts = refl

pub occurs_then : (bs : Bindings) (x : Variable) (t : Term Variable) (ts : Terms Variable)
    → occurs_among x (unders (solution bs) (t then ts)) ≡ (occurs x (under (solution bs) t) || occurs_among x (unders (solution bs) ts))
unfolding under occurs
occurs_then bs x t ts = refl
