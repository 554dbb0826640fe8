-- What bindings say of a substitution, and the most general substitution of which it is true.
use mathlib.Core.Bool.{Bool, true, false, cond, ◌||◌}
use mathlib.Core.List.{[], ◌∷◌, ◌++◌}
use Prim.Native.Nat.{ℕ}
use mathlib.Core.Path.{◌≡◌, refl, sym, ◌∙◌, ap, ap₂}
use Rattle.table.specs.Syntax.{Term, Terms, var, app, nil, ◌then◌, under, unders}
use Rattle.rules.specs.Substitution.{Variable, Substitution, same_variable}
use Rattle.rules.specs.Machinery.Unify.{Binding, Bindings, replace, solution, through, follow, occurs, occurs_among}
use Rattle.rules.proofs.Substitution.{same, under_under}
use Rattle.rules.proofs.Unify.Tests.{or_left, or_right, same_true, same_refl}

-- a substitution makes each variable equal to its value
unfoldable pub Satisfies : Substitution → Bindings → Type 0
Satisfies σ [] = Unit {0}
Satisfies σ (b ∷ bs) = (σ b.variable ≡ under σ b.value) × Satisfies σ bs

unfoldable pub is_bound : Bindings → Variable → Bool
is_bound [] x = false
is_bound (b ∷ bs) x = same_variable b.variable x || is_bound bs x

-- nothing is left to follow
unfoldable pub Followed : Bindings → Term Variable → Type 0
Followed bs (var x) = is_bound bs x ≡ false
Followed bs (app f ts) = Unit {0}

-- a binding that may be added
pub record Fresh (b : Binding) (bs : Bindings) : Type 0 where
  pub unbound : is_bound bs b.variable ≡ false
  pub followed : Followed bs b.value
  pub apart : occurs b.variable (under (solution bs) b.value) ≡ false

-- each variable is bound once, to a term that was followed and does not hold it
unfoldable pub Good : Bindings → Type 0
Good [] = Unit {0}
Good (b ∷ bs) = Fresh b bs × Good bs

-- one variable replaced
pub replace_same : (x : Variable) (t : Term Variable) → replace x t x ≡ t
unfolding replace
replace_same x t = ap (λ (c : Bool). cond c t (var x)) (same_refl x)

pub replace_other : (x y : Variable) (t : Term Variable) → same_variable x y ≡ false → replace x t y ≡ var y
unfolding replace
replace_other x y t e = ap (λ (c : Bool). cond c t (var y)) e

pub replace_equal : (σ : Substitution) (x : Variable) (t : Term Variable) → σ x ≡ under σ t → (y : Variable) → under σ (replace x t y) ≡ σ y
unfolding replace under
replace_equal σ x t h y = go (same_variable x y) refl
  where
    go : (c : Bool) → same_variable x y ≡ c → under σ (cond c t (var y)) ≡ σ y
    go true e = sym h ∙ ap σ (same_true x y e)
    go false e = refl

mutual
  unfolding under occurs

  pub replace_absent : (t : Term Variable) (x : Variable) (u : Term Variable) → occurs x t ≡ false → under (replace x u) t ≡ t
  replace_absent (var y) x u e = replace_other x y u e
  replace_absent (app f ts) x u e = ap (app f) (replace_absents ts x u e)

  pub replace_absents : (ts : Terms Variable) (x : Variable) (u : Term Variable) → occurs_among x ts ≡ false → unders (replace x u) ts ≡ ts
  replace_absents nil x u e = refl
  replace_absents (t then ts) x u e =
      ap₂
      ◌then◌
      (replace_absent t x u (or_left (occurs x t) _ e))
      (replace_absents ts x u (or_right (occurs x t) _ e))

-- following changes nothing for a substitution that satisfies the bindings
through_under : (σ : Substitution) (b : Binding) (t : Term Variable) → σ b.variable ≡ under σ b.value → under σ (through b t) ≡ under σ t
unfolding through under
through_under σ b (var x) h = go (same_variable b.variable x) refl
  where
    go : (c : Bool) → same_variable b.variable x ≡ c → under σ (cond c b.value (var x)) ≡ σ x
    go true e = sym h ∙ ap σ (same_true _ _ e)
    go false e = refl
through_under σ b (app f ts) h = refl

pub follow_under : (σ : Substitution) (bs : Bindings) (t : Term Variable) → Satisfies σ bs → under σ (follow bs t) ≡ under σ t
unfolding follow Satisfies
follow_under σ [] t h = refl
follow_under σ (b ∷ bs) t h = through_under σ b (follow bs t) h.0 ∙ follow_under σ bs t h.1

-- older bindings are good without the newer ones
pub good_older : (new bs : Bindings) → Good (new ++ bs) → Good bs
unfolding Good
good_older [] bs g = g
good_older (b ∷ new) bs g = good_older new bs g.1

-- every substitution that satisfies the bindings is an instance of their solution
resolve : (σ τ : Substitution) (t : Term Variable) → ((x : Variable) → σ x ≡ under σ (τ x)) → under σ t ≡ under σ (under τ t)
resolve σ τ t h = sym (under_under σ τ t ∙ same (λ y. sym (h y)) t)

general_more : (σ : Substitution) (b : Binding) (bs : Bindings) → σ b.variable ≡ under σ b.value
    → ((x : Variable) → σ x ≡ under σ (solution bs x))
    → (x : Variable) → σ x ≡ under σ (solution (b ∷ bs) x)
unfolding solution
general_more σ b bs e h x =
    h x ∙ resolve σ (replace b.variable u) (solution bs x) (λ y. sym (replace_equal σ b.variable u resolved y))
  where
    u : Term Variable
    u = under (solution bs) b.value

    resolved : σ b.variable ≡ under σ u
    resolved = e ∙ resolve σ (solution bs) b.value h

pub general : (σ : Substitution) (bs : Bindings) → Satisfies σ bs → (x : Variable) → σ x ≡ under σ (solution bs x)
unfolding solution Satisfies under
general σ [] h x = refl
general σ (b ∷ bs) h x = general_more σ b bs h.0 (general σ bs h.1) x

pub general_under : (σ : Substitution) (bs : Bindings) (t : Term Variable) → Satisfies σ bs → under σ t ≡ under σ (under (solution bs) t)
general_under σ bs t h = resolve σ (solution bs) t (general σ bs h)

-- a variable that is not bound is its own solution
pub unbound_solution : (bs : Bindings) (x : Variable) → is_bound bs x ≡ false → solution bs x ≡ var x
unfolding solution is_bound under
unbound_solution [] x e = refl
unbound_solution (b ∷ bs) x e =
    ap
    (under (replace b.variable (under (solution bs) b.value)))
    (unbound_solution bs x (or_right (same_variable b.variable x) _ e))
    ∙ replace_other b.variable x _ (or_left (same_variable b.variable x) _ e)

-- an instance of what satisfies the bindings satisfies them
pub satisfied_instance : (ρ σ : Substitution) (bs : Bindings) → Satisfies σ bs → Satisfies (λ x. under ρ (σ x)) bs
unfolding Satisfies
satisfied_instance ρ σ [] h = tt
satisfied_instance ρ σ (b ∷ bs) h =
    (ap (under ρ) h.0 ∙ under_under ρ σ b.value, satisfied_instance ρ σ bs h.1)

newest : (b : Binding) (bs : Bindings) → Fresh b bs → solution (b ∷ bs) b.variable ≡ under (solution (b ∷ bs)) b.value
unfolding solution under
newest b bs f =
    ap (under (replace b.variable u)) (unbound_solution bs b.variable f.unbound)
    ∙ replace_same b.variable u
    ∙ sym (replace_absent u b.variable u f.apart)
    ∙ under_under (replace b.variable u) (solution bs) b.value
  where
    u : Term Variable
    u = under (solution bs) b.value

pub solution_satisfies : (bs : Bindings) → Good bs → Satisfies (solution bs) bs
unfolding Satisfies Good solution
solution_satisfies [] g = tt
solution_satisfies (b ∷ bs) g =
    (newest b bs g.0, satisfied_instance (replace b.variable (under (solution bs) b.value)) (solution bs) bs (solution_satisfies bs g.1))

pub follow_solution : (bs : Bindings) (t : Term Variable) → Good bs → under (solution bs) (follow bs t) ≡ under (solution bs) t
follow_solution bs t g = follow_under (solution bs) bs t (solution_satisfies bs g)

pub idempotent : (bs : Bindings) → Good bs → (x : Variable) → under (solution bs) (solution bs x) ≡ solution bs x
idempotent bs g x = sym (general (solution bs) bs (solution_satisfies bs g) x)

-- what was followed is an application, or a variable that is not bound
pub followed_more : (b : Binding) (bs : Bindings) (t : Term Variable) → Followed bs t → occurs b.variable (under (solution bs) t) ≡ false
    → Followed (b ∷ bs) t
unfolding Followed is_bound under occurs
followed_more b bs (var z) h o =
    ap₂ ◌||◌ (sym (ap (occurs b.variable) (unbound_solution bs z h)) ∙ o) h
followed_more b bs (app f ts) h o = tt

through_followed : (b : Binding) (bs : Bindings) → Fresh b bs → (t : Term Variable) → Followed bs t → Followed (b ∷ bs) (through b t)
unfolding through Followed is_bound
through_followed b bs f (var x) h = go (same_variable b.variable x) refl
  where
    go : (c : Bool) → same_variable b.variable x ≡ c → Followed (b ∷ bs) (cond c b.value (var x))
    go true e = followed_more b bs b.value f.followed f.apart
    go false e = ap₂ ◌||◌ e h
through_followed b bs f (app g ts) h = tt

followed_none : (t : Term Variable) → Followed [] t
unfolding Followed is_bound
followed_none (var x) = refl
followed_none (app f ts) = tt

pub follow_followed : (bs : Bindings) → Good bs → (t : Term Variable) → Followed bs (follow bs t)
unfolding follow Good
follow_followed [] g t = followed_none t
follow_followed (b ∷ bs) g t = through_followed b bs g.0 (follow bs t) (follow_followed bs g.1 t)

-- what was followed stays
pub follow_app : (bs : Bindings) (f : ℕ) (ts : Terms Variable) → follow bs (app f ts) ≡ app f ts
unfolding follow through
follow_app [] f ts = refl
follow_app (b ∷ bs) f ts = ap (through b) (follow_app bs f ts)

pub follow_unbound : (bs : Bindings) (x : Variable) → is_bound bs x ≡ false → follow bs (var x) ≡ var x
unfolding follow through is_bound
follow_unbound [] x e = refl
follow_unbound (b ∷ bs) x e =
    ap (through b) (follow_unbound bs x (or_right (same_variable b.variable x) _ e))
    ∙ ap (λ (c : Bool). cond c b.value (var x)) (or_left (same_variable b.variable x) _ e)

pub follow_stays : (bs : Bindings) (t : Term Variable) → Followed bs t → follow bs t ≡ t
unfolding Followed
follow_stays bs (var x) h = follow_unbound bs x h
follow_stays bs (app f ts) h = follow_app bs f ts
