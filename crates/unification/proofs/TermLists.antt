-- Lists of terms: their first terms and the rest, under substitutions, with their variables and heights.
use mathlib.Core.Bool.{Bool, true, false, ◌||◌}
use mathlib.Core.List.{List, [], ◌∷◌, ◌++◌, append_assoc}
use mathlib.Core.Path.{◌≡◌, refl, sym, ◌∙◌, ap, ap₂}
use native.Mathlib.Nat.{suc-add, zero-add}
use native.Mathlib.Omega.{arith}
use Prim.Native.Nat.{ℕ, zero, suc, ◌+◌, ◌-◌, ◌≤◌, ◌<◌, max}
use Rattle.table.specs.Syntax.{Term, Terms, var, app, nil, ◌then◌, arity, under, unders}
use Rattle.table.specs.Decode.{first, rest}
use Rattle.rules.specs.Substitution.{Variable, Substitution}
use Rattle.rules.specs.Machinery.Unify.{occurs, occurs_among, height, height_among, variables, variables_among}
use Rattle.unification.specs.Good.{occurs_in}

module _ {X : Type 0} where
  pub rest_nil : (k : ℕ) → ◌≡◌ {A = Terms X} (rest k nil) nil
  unfolding rest
  rest_nil zero = refl
  rest_nil (suc k) = refl

  pub first_nil : (k : ℕ) → ◌≡◌ {A = Terms X} (first k nil) nil
  unfolding first
  first_nil zero = refl
  first_nil (suc k) = refl

  pub rest_rest : (a k : ℕ) (ts : Terms X) → rest k (rest a ts) ≡ rest (a + k) ts
  unfolding rest
  rest_rest zero k ts = rw zero-add
  rest_rest (suc a) k nil = rw (suc-add, rest_nil k)
  rest_rest (suc a) k (t then ts) = rw suc-add (rest_rest a k ts)

  pub arity_rest : (a : ℕ) (ts : Terms X) → arity (rest a ts) ≡ arity ts - a
  unfolding rest arity
  arity_rest zero ts = omega arith
  arity_rest (suc a) nil = omega arith
  arity_rest (suc a) (t then ts) = omega (arith, arity_rest a ts)

  pub arity_first : (a : ℕ) (ts : Terms X) → a ≤ arity ts → arity (first a ts) ≡ a
  unfolding first arity
  arity_first zero ts h = refl
  arity_first (suc a) nil h = omega arith
  arity_first (suc a) (t then ts) h = ap suc (arity_first a ts (omega arith))

module _ {X Y : Type 0} (σ : X → Term Y) where
  pub first_under : (n : ℕ) (ts : Terms X) → unders σ (first n ts) ≡ first n (unders σ ts)
  unfolding first under
  first_under zero ts = refl
  first_under (suc n) nil = refl
  first_under (suc n) (t then ts) = ap (under σ t then◌) (first_under n ts)

  pub rest_under : (n : ℕ) (ts : Terms X) → unders σ (rest n ts) ≡ rest n (unders σ ts)
  unfolding rest under
  rest_under zero ts = refl
  rest_under (suc n) nil = refl
  rest_under (suc n) (t then ts) = rest_under n ts

  pub arity_under : (ts : Terms X) → arity (unders σ ts) ≡ arity ts
  unfolding arity under
  arity_under nil = refl
  arity_under (t then ts) = ap suc (arity_under ts)

-- the variables of the first terms, in order
pub variables_first : (a k : ℕ) (ts : Terms Variable)
    → variables_among (first (a + k) ts) ≡ variables_among (first a ts) ++ variables_among (first k (rest a ts))
unfolding first rest variables
variables_first zero k ts = rw zero-add
variables_first (suc a) k nil = rw (suc-add, first_nil {X = Variable} k)
variables_first (suc a) k (t then ts) =
    rw suc-add (ap (variables t ++◌) (variables_first a k ts) ∙ sym (append_assoc (variables t) _ _))

-- heights
pub height_first : (a : ℕ) (ts : Terms Variable) → height_among (first a ts) ≤ height_among ts
unfolding first height
height_first zero ts = omega arith
height_first (suc a) nil = omega arith
height_first (suc a) (t then ts) = omega (arith, height_first a ts)

pub height_rest : (a : ℕ) (ts : Terms Variable) → height_among (rest a ts) ≤ height_among ts
unfolding rest height
height_rest zero ts = omega arith
height_rest (suc a) nil = omega arith
height_rest (suc a) (t then ts) = omega (arith, height_rest a ts)

-- the height of the highest term, and one
unfoldable pub peak : Terms Variable → ℕ
peak nil = zero
peak (t then ts) = max (suc (height t)) (peak ts)

pub peak_height : (ts : Terms Variable) → peak ts ≤ height_among ts
unfolding peak height
peak_height nil = omega arith
peak_height (t then ts) = omega (arith, peak_height ts)

-- arguments are lower than the application in whose place they stand
pub peak_in_place : (σ : Substitution) (a k : ℕ) (ts : Terms Variable)
    → peak (unders σ (first (a + k) ts)) ≤ max (suc (height_among (unders σ (first a ts)))) (peak (unders σ (first k (rest a ts))))
unfolding first rest under peak height
peak_in_place σ zero k ts = rw zero-add (omega arith)
peak_in_place σ (suc a) k nil = rw (suc-add, first_nil {X = Variable} k) (omega arith)
peak_in_place σ (suc a) k (t then ts) = rw suc-add (omega (arith, peak_in_place σ a k ts))

-- a variable occurs in a term exactly if it occurs in what stands for one of the term's variables
pub occurs_in_append : (x : Variable) (σ : Substitution) (ys zs : List Variable) → occurs_in x σ (ys ++ zs) ≡ occurs_in x σ ys || occurs_in x σ zs
unfolding occurs_in
occurs_in_append x σ [] zs = refl
occurs_in_append x σ (y ∷ ys) zs = go (occurs x (σ y)) (occurs_in_append x σ ys zs)
  where
    go : (c : Bool) → occurs_in x σ (ys ++ zs) ≡ occurs_in x σ ys || occurs_in x σ zs
        → c || occurs_in x σ (ys ++ zs) ≡ (c || occurs_in x σ ys) || occurs_in x σ zs
    go true e = refl
    go false e = e

mutual
  unfolding under occurs variables occurs_in

  pub occurs_variables : (t : Term Variable) (x : Variable) (σ : Substitution) → occurs x (under σ t) ≡ occurs_in x σ (variables t)
  occurs_variables (var y) x σ = go (occurs x (σ y))
    where
      go : (c : Bool) → c ≡ c || false
      go true = refl
      go false = refl
  occurs_variables (app f ts) x σ = occurs_among_variables ts x σ

  pub occurs_among_variables : (ts : Terms Variable) (x : Variable) (σ : Substitution) → occurs_among x (unders σ ts) ≡ occurs_in x σ (variables_among ts)
  occurs_among_variables nil x σ = refl
  occurs_among_variables (t then ts) x σ =
      ap₂ ◌||◌ (occurs_variables t x σ) (occurs_among_variables ts x σ) ∙ sym (occurs_in_append x σ (variables t) (variables_among ts))

-- what is true of each variable of a list
unfoldable pub All : (Variable → Type 0) → List Variable → Type 0
All P [] = Unit {0}
All P (y ∷ ys) = P y × All P ys

all_append : (P : Variable → Type 0) (ys zs : List Variable) → All P ys → All P zs → All P (ys ++ zs)
unfolding All
all_append P [] zs p q = q
all_append P (y ∷ ys) zs p q = (p.0, all_append P ys zs p.1 q)

pub all_map : {P Q : Variable → Type 0} (ys : List Variable) → ((y : Variable) → P y → Q y) → All P ys → All Q ys
unfolding All
all_map [] h p = tt
all_map (y ∷ ys) h p = (h y p.0, all_map ys h p.1)

pub all_right : (P : Variable → Type 0) (ys zs : List Variable) → All P (ys ++ zs) → All P zs
unfolding All
all_right P [] zs p = p
all_right P (y ∷ ys) zs p = all_right P ys zs p.1

-- the variables of an application are lower under a substitution than the application
mutual
  unfolding under height variables All

  variables_height : (t : Term Variable) (σ : Substitution) (h : ℕ) → height (under σ t) < h → All (λ y. height (σ y) < h) (variables t)
  variables_height (var y) σ h l = (l, tt)
  variables_height (app f ts) σ h l = among_height ts σ h (omega arith)

  pub among_height : (ts : Terms Variable) (σ : Substitution) (h : ℕ) → height_among (unders σ ts) ≤ h → All (λ y. height (σ y) < h) (variables_among ts)
  among_height nil σ h l = tt
  among_height (t then ts) σ h l =
      all_append _ (variables t) (variables_among ts) (variables_height t σ h (omega arith)) (among_height ts σ h (omega arith))
