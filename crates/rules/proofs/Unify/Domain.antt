-- Which variables bindings and their solutions are about.
use mathlib.Core.Bool.{Bool, true, false, cond, ◌||◌}
use mathlib.Core.List.{[], ◌∷◌}
use mathlib.Core.Path.{◌≡◌, refl, ap₂}
use Rattle.table.specs.Syntax.{Term, Terms, var, app, nil, ◌then◌, under}
use Rattle.rules.specs.Substitution.{Variable, same_variable}
use Rattle.rules.specs.Machinery.Unify.{Bindings, replace, solution, occurs, occurs_among}
use Rattle.rules.proofs.Substitution.{Over, Overs, over_under}
use Rattle.rules.proofs.Unify.Run.{Within, Each, Hereditary}

-- terms over some variables hand that down to their arguments
over_each : (P : Variable → Type 0) (ts : Terms Variable) → Overs P ts → Each (Over P) ts
unfolding Over Each
over_each P nil o = tt
over_each P (t then ts) o = (o.0, over_each P ts o.1)

pub over_parts : (P : Variable → Type 0) → Hereditary (Over P)
unfolding Over
over_parts P f ts o = over_each P ts o

-- the solution of bindings of some variables to terms over them
over_replace : (P : Variable → Type 0) (x : Variable) (u : Term Variable) → Over P u → (y : Variable) → P y → Over P (replace x u y)
unfolding Over replace
over_replace P x u o y p = go (same_variable x y)
  where
    go : (c : Bool) → Over P (cond c u (var y))
    go true = o
    go false = p

pub over_solution : (P : Variable → Type 0) (bs : Bindings) → Within (Over P) bs → (x : Variable) → P x → Over P (solution bs x)
unfolding Over Within solution
over_solution P [] w x p = p
over_solution P (b ∷ bs) w x p =
    let older = over_solution P bs w.2 in
    over_under
    P
    (replace b.variable (under (solution bs) b.value))
    (solution bs x)
    (over_replace P b.variable _ (over_under P (solution bs) b.value older w.1))
    (older x p)

pub over_resolved : (P : Variable → Type 0) (bs : Bindings) (t : Term Variable) → Within (Over P) bs → Over P t → Over P (under (solution bs) t)
over_resolved P bs t w o = over_under P (solution bs) t (over_solution P bs w) o

-- a variable that stands nowhere in the bindings and the term does not occur
mutual
  unfolding Over occurs

  pub over_absent : (t : Term Variable) (x : Variable) → Over (λ y. same_variable x y ≡ false) t → occurs x t ≡ false
  over_absent (var y) x o = o
  over_absent (app f ts) x o = overs_absent ts x o

  pub overs_absent : (ts : Terms Variable) (x : Variable) → Overs (λ y. same_variable x y ≡ false) ts → occurs_among x ts ≡ false
  overs_absent nil x o = refl
  overs_absent (t then ts) x o = ap₂ ◌||◌ (over_absent t x o.0) (overs_absent ts x o.1)

pub new_absent : (bs : Bindings) (x : Variable) (t : Term Variable) → Within (Over (λ y. same_variable x y ≡ false)) bs
    → Over (λ y. same_variable x y ≡ false) t
    → occurs x (under (solution bs) t) ≡ false
new_absent bs x t w o = over_absent (under (solution bs) t) x (over_resolved (λ y. same_variable x y ≡ false) bs t w o)
