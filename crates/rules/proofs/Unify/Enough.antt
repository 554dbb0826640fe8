-- The depth that a comparison is given is enough.
use lib.ListN.{length}
use mathlib.Core.Bool.{Bool, true, false, ◌||◌, or-true}
use mathlib.Core.List.{List, [], ◌∷◌, ◌++◌}
use mathlib.Core.Path.{◌≡◌, refl, ◌∙◌, ap}
use native.Mathlib.Omega.{arith}
use Prim.Native.Nat.{ℕ, zero, suc, ◌+◌, ◌≤◌, ◌<◌}
use Rattle.table.specs.Syntax.{Term, Terms, var, app, nil, ◌then◌}
use Rattle.rules.specs.Substitution.{Variable, same_variable}
use Rattle.rules.specs.Machinery.Unify.{Binding, Bindings, solution, height, height_among, variables, variables_among, height_of, variables_of, doubled, enough}
use Rattle.rules.proofs.Substitution.{Over, Overs}
use Rattle.rules.proofs.Unify.Tests.{same_true, same_refl}
use Rattle.rules.proofs.Unify.Solution.{Good, is_bound}
use Rattle.rules.proofs.Unify.Heights.{Low, solution_height, doubled_mono, heights_under}
use Rattle.rules.proofs.Unify.Run.{Property, Within, Each, Hereditary, Fits}

-- a variable stands in a list
unfoldable pub among : List Variable → Variable → Bool
among [] x = false
among (v ∷ vs) x = same_variable v x || among vs x

among_left : (vs ws : List Variable) (x : Variable) → among vs x ≡ true → among (vs ++ ws) x ≡ true
unfolding among
among_left [] ws x e = cc
among_left (v ∷ vs) ws x e = go (same_variable v x) (among_left vs ws x) e
  where
    go : (c : Bool) → (among vs x ≡ true → among (vs ++ ws) x ≡ true) → c || among vs x ≡ true → c || among (vs ++ ws) x ≡ true
    go true ih e = refl
    go false ih e = ih e

among_right : (vs ws : List Variable) (x : Variable) → among ws x ≡ true → among (vs ++ ws) x ≡ true
unfolding among
among_right [] ws x e = e
among_right (v ∷ vs) ws x e = go (same_variable v x) (among_right vs ws x e)
  where
    go : (c : Bool) → among (vs ++ ws) x ≡ true → c || among (vs ++ ws) x ≡ true
    go true ih = refl
    go false ih = ih

abbrev pub Inside : List Variable → List Variable → Type 0
Inside vs ws = (x : Variable) → among vs x ≡ true → among ws x ≡ true

among_first : (v : Variable) (vs : List Variable) → among (v ∷ vs) v ≡ true
unfolding among
among_first v vs = ap (λ (c : Bool). c || among vs v) (same_refl v)

-- how many of the listed variables are not bound
tally : Bool → ℕ → ℕ
tally true n = n
tally false n = suc n

free : Bindings → List Variable → ℕ
free bs [] = zero
free bs (v ∷ vs) = tally (is_bound bs v) (free bs vs)

free_all : (vs : List Variable) → free [] vs ≡ length vs
unfolding free tally is_bound
free_all [] = refl
free_all (v ∷ vs) = ap suc (free_all vs)

tally_le : (s c : Bool) (m n : ℕ) → m ≤ n → tally (s || c) m ≤ tally c n
unfolding tally
tally_le true true m n l = omega arith
tally_le true false m n l = omega arith
tally_le false true m n l = omega arith
tally_le false false m n l = omega arith

tally_lt : (s c : Bool) (m n : ℕ) → m < n → tally (s || c) m < tally c n
unfolding tally
tally_lt true true m n l = omega arith
tally_lt true false m n l = omega arith
tally_lt false true m n l = omega arith
tally_lt false false m n l = omega arith

free_le : (b : Binding) (bs : Bindings) (vs : List Variable) → free (b ∷ bs) vs ≤ free bs vs
unfolding free is_bound
free_le b bs [] = omega arith
free_le b bs (v ∷ vs) = tally_le (same_variable b.variable v) (is_bound bs v) _ _ (free_le b bs vs)

-- a new binding leaves fewer
free_lt : (b : Binding) (bs : Bindings) (vs : List Variable) → is_bound bs b.variable ≡ false → among vs b.variable ≡ true
    → free (b ∷ bs) vs < free bs vs
unfolding free is_bound among tally
free_lt b bs [] u e = let z : ◌≡◌ {A = ℕ} 0 1 = cc in omega arith
free_lt b bs (v ∷ vs) u e = go (same_variable v b.variable) refl (free_lt b bs vs u) e
  where
    here : v ≡ b.variable → free (b ∷ bs) (v ∷ vs) < free bs (v ∷ vs)
    here p =
        let s : same_variable b.variable v ≡ true = ap (same_variable b.variable) p ∙ same_refl b.variable in
        let c : is_bound bs v ≡ false = ap (is_bound bs) p ∙ u in
        rw (s, c) (omega (arith, free_le b bs vs))

    go : (c : Bool) → same_variable v b.variable ≡ c → (among vs b.variable ≡ true → free (b ∷ bs) vs < free bs vs)
        → c || among vs b.variable ≡ true
        → free (b ∷ bs) (v ∷ vs) < free bs (v ∷ vs)
    go true s ih e = here (same_true v b.variable s)
    go false s ih e = tally_lt (same_variable b.variable v) (is_bound bs v) _ _ (ih e)

-- bindings of listed variables are no more than the list is long
few : (bs : Bindings) (vs : List Variable) → Good bs → Within (Over (λ x. among vs x ≡ true)) bs → length bs + free bs vs ≤ length vs
unfolding Good Within Over
few [] vs g w = omega (arith, free_all vs)
few (b ∷ bs) vs g w = omega (arith, few bs vs g.1 w.2, free_lt b bs vs g.0.unbound w.0)

pub few_bindings : (bs : Bindings) (vs : List Variable) → Good bs → Within (Over (λ x. among vs x ≡ true)) bs → length bs ≤ length vs
few_bindings bs vs g w = omega (arith, few bs vs g w)

-- terms over listed variables, up to a height
unfoldable pub Scope : List Variable → ℕ → Property
Scope vs h t = Over (λ x. among vs x ≡ true) t × (height t ≤ h)

pub scope_each : (vs : List Variable) (h : ℕ) (ts : Terms Variable) → Overs (λ x. among vs x ≡ true) ts → height_among ts ≤ h → Each (Scope vs h) ts
unfolding Scope Each Over height
scope_each vs h nil o l = tt
scope_each vs h (t then ts) o l = ((o.0, omega arith), scope_each vs h ts o.1 (omega arith))

pub scope_parts : (vs : List Variable) (h : ℕ) → Hereditary (Scope vs h)
unfolding Scope Over height
scope_parts vs h f ts q = scope_each vs h ts q.0 q.1

pub scope_over : (vs : List Variable) (h : ℕ) (bs : Bindings) → Within (Scope vs h) bs → Within (Over (λ x. among vs x ≡ true)) bs
unfolding Scope Within
scope_over vs h [] w = tt
scope_over vs h (b ∷ bs) w = (w.0.0, w.1.0, scope_over vs h bs w.2)

scope_low : (vs : List Variable) (h : ℕ) (bs : Bindings) → Within (Scope vs h) bs → Low h bs
unfolding Scope Within Low
scope_low vs h [] w = tt
scope_low vs h (b ∷ bs) w = (w.1.1, scope_low vs h bs w.2)

pub scope_height : (vs : List Variable) (h : ℕ) (bs : Bindings) → Good bs → Within (Scope vs h) bs
    → (x : Variable) → height (solution bs x) ≤ doubled (length vs) h
scope_height vs h bs g w x =
    omega (
      arith,
      solution_height bs h (scope_low vs h bs w) x,
      doubled_mono (length bs) (length vs) h (few_bindings bs vs g (scope_over vs h bs w)),
    )

scope_fits : (vs : List Variable) (h : ℕ) (bs : Bindings) (ss : Terms Variable) → Fits (Scope vs h) (suc (height_among ss + doubled (length vs) h)) bs ss
unfolding Fits
scope_fits vs h bs ss =
    λ bs' g w s. omega (arith, heights_under ss (solution bs') (doubled (length vs) h) (scope_height vs h bs' g w))

-- the variables of a term are those that are listed for it
mutual
  unfolding Over variables among

  over_variables : (t : Term Variable) (vs : List Variable) → Inside (variables t) vs → Over (λ x. among vs x ≡ true) t
  over_variables (var x) vs i = i x (among_first x [])
  over_variables (app f ts) vs i = overs_variables ts vs i

  overs_variables : (ts : Terms Variable) (vs : List Variable) → Inside (variables_among ts) vs → Overs (λ x. among vs x ≡ true) ts
  overs_variables nil vs i = tt
  overs_variables (t then ts) vs i = (
    over_variables t vs (λ x e. i x (among_left (variables t) (variables_among ts) x e)),
    overs_variables ts vs (λ x e. i x (among_right (variables t) (variables_among ts) x e)),
  )

within_scope : (bs : Bindings) (vs : List Variable) (h : ℕ) → Inside (variables_of bs) vs → height_of bs ≤ h → Within (Scope vs h) bs
unfolding variables_of height_of Within Scope Over among height
within_scope [] vs h i l = tt
within_scope (b ∷ bs) vs h i l = (
  (i b.variable (among_first b.variable (variables b.value ++ variables_of bs)), omega arith),
  (
    over_variables b.value vs (λ x e. i x (rest x (among_left (variables b.value) (variables_of bs) x e))),
    omega arith,
  ),
  within_scope bs vs h (λ x e. i x (rest x (among_right (variables b.value) (variables_of bs) x e))) (omega arith),
)
  where
    rest : (x : Variable) → among (variables b.value ++ variables_of bs) x ≡ true → among (b.variable ∷ variables b.value ++ variables_of bs) x ≡ true
    rest x e = ap (same_variable b.variable x ||◌) e ∙ or-true (same_variable b.variable x)

-- what a comparison is about
unfoldable pub Problem : Bindings → Terms Variable → Terms Variable → Property
unfolding Scope
Problem bs ss ts =
    Scope (variables_of bs ++ (variables_among ss ++ variables_among ts)) (height_of bs + height_among ss + height_among ts)

module _ (bs : Bindings) (ss ts : Terms Variable) where
  pub problem_parts : Hereditary (Problem bs ss ts)
  unfolding Problem
  problem_parts = scope_parts _ _

  pub problem_bindings : Within (Problem bs ss ts) bs
  unfolding Problem
  problem_bindings = within_scope bs _ _ (λ x e. among_left (variables_of bs) _ x e) (omega arith)

  pub problem_left : Each (Problem bs ss ts) ss
  unfolding Problem
  problem_left =
      scope_each
      _
      _
      ss
      (overs_variables
      ss
      _
      (λ x e. among_right (variables_of bs) _ x (among_left (variables_among ss) (variables_among ts) x e)))
      (omega arith)

  pub problem_right : Each (Problem bs ss ts) ts
  unfolding Problem
  problem_right =
      scope_each
      _
      _
      ts
      (overs_variables
      ts
      _
      (λ x e. among_right (variables_of bs) _ x (among_right (variables_among ss) (variables_among ts) x e)))
      (omega arith)

  pub problem_fits : Fits (Problem bs ss ts) (suc (enough bs ss ts)) bs ss
  unfolding Problem enough
  problem_fits = scope_fits _ _ bs ss
