-- Laws of a term under a substitution.
use mathlib.Core.Path.{◌≡◌, refl, ap, ap₂}
use Prim.Native.Nat.{suc}
use Rattle.table.specs.Syntax.{Term, Terms, var, app, nil, ◌then◌, arity, under, unders}

-- A term over variables that have a property.
unfoldable mutual
  pub Over : {X : Type 0} → (X → Type 0) → Term X → Type 0
  Over P (var x) = P x
  Over P (app f ts) = Overs P ts

  pub Overs : {X : Type 0} → (X → Type 0) → Terms X → Type 0
  Overs P nil = Unit {0}
  Overs P (t then ts) = Over P t × Overs P ts

-- agreement on the variables of a term
mutual
  unfolding under Over

  pub agree : {X Y : Type 0} (σ τ : X → Term Y) (t : Term X) → Over (λ x. σ x ≡ τ x) t → under σ t ≡ under τ t
  agree σ τ (var x) e = e
  agree σ τ (app f ts) e = ap (app f) (agrees σ τ ts e)

  pub agrees : {X Y : Type 0} (σ τ : X → Term Y) (ts : Terms X) → Overs (λ x. σ x ≡ τ x) ts → unders σ ts ≡ unders τ ts
  agrees σ τ nil e = refl
  agrees σ τ (t then ts) e = ap₂ ◌then◌ (agree σ τ t e.0) (agrees σ τ ts e.1)

-- agreement everywhere
mutual
  unfolding Over

  pub over : {X : Type 0} {P : X → Type 0} → (t : Term X) → ((x : X) → P x) → Over P t
  over (var x) p = p x
  over (app f ts) p = overs ts p

  pub overs : {X : Type 0} {P : X → Type 0} → (ts : Terms X) → ((x : X) → P x) → Overs P ts
  overs nil p = tt
  overs (t then ts) p = (over t p, overs ts p)

pub same : {X Y : Type 0} {σ τ : X → Term Y} → ((x : X) → σ x ≡ τ x) → (t : Term X) → under σ t ≡ under τ t
same {σ} {τ} e t = agree σ τ t (over t e)

pub sames : {X Y : Type 0} {σ τ : X → Term Y} → ((x : X) → σ x ≡ τ x) → (ts : Terms X) → unders σ ts ≡ unders τ ts
sames {σ} {τ} e ts = agrees σ τ ts (overs ts e)

mutual
  unfolding under

  pub under_var : {X : Type 0} → (t : Term X) → under var t ≡ t
  under_var (var x) = refl
  under_var (app f ts) = ap (app f) (unders_var ts)

  pub unders_var : {X : Type 0} → (ts : Terms X) → unders var ts ≡ ts
  unders_var nil = refl
  unders_var (t then ts) = ap₂ ◌then◌ (under_var t) (unders_var ts)

mutual
  unfolding under

  pub under_under : {X Y Z : Type 0} (τ : Y → Term Z) (σ : X → Term Y) (t : Term X) → under τ (under σ t) ≡ under (λ x. under τ (σ x)) t
  under_under τ σ (var x) = refl
  under_under τ σ (app f ts) = ap (app f) (unders_unders τ σ ts)

  pub unders_unders : {X Y Z : Type 0} (τ : Y → Term Z) (σ : X → Term Y) (ts : Terms X) → unders τ (unders σ ts) ≡ unders (λ x. under τ (σ x)) ts
  unders_unders τ σ nil = refl
  unders_unders τ σ (t then ts) = ap₂ ◌then◌ (under_under τ σ t) (unders_unders τ σ ts)

-- a term under a substitution is over the variables of its values
mutual
  unfolding under Over

  pub over_under : {X Y : Type 0} {R : X → Type 0} (P : Y → Type 0) (σ : X → Term Y) (t : Term X) → ((x : X) → R x → Over P (σ x)) → Over R t → Over P (under σ t)
  over_under P σ (var x) h o = h x o
  over_under P σ (app f ts) h o = overs_unders P σ ts h o

  pub overs_unders : {X Y : Type 0} {R : X → Type 0} (P : Y → Type 0) (σ : X → Term Y) (ts : Terms X) → ((x : X) → R x → Over P (σ x)) → Overs R ts → Overs P (unders σ ts)
  overs_unders P σ nil h o = tt
  overs_unders P σ (t then ts) h o = (over_under P σ t h o.0, overs_unders P σ ts h o.1)

mutual
  unfolding Over

  pub over_map : {X : Type 0} {P Q : X → Type 0} (t : Term X) → ((x : X) → P x → Q x) → Over P t → Over Q t
  over_map (var x) h o = h x o
  over_map (app f ts) h o = overs_map ts h o

  pub overs_map : {X : Type 0} {P Q : X → Type 0} (ts : Terms X) → ((x : X) → P x → Q x) → Overs P ts → Overs Q ts
  overs_map nil h o = tt
  overs_map (t then ts) h o = (over_map t h o.0, overs_map ts h o.1)

-- a substitution keeps the number of arguments
pub arity_unders : {X Y : Type 0} (σ : X → Term Y) (ts : Terms X) → arity (unders σ ts) ≡ arity ts
unfolding arity unders
arity_unders σ nil = refl
arity_unders σ (t then ts) = ap suc (arity_unders σ ts)
