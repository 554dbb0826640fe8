-- Instances of a clause, and what a substitution makes of copies, leaves and fitting pairs.
use borrow.Author.Tests.{eq-eqb}
use lib.Dec.{eqb}
use lib.ListN.{take, drop, get_elem?}
use mathlib.Core.Bool.{Bool, true, false, beq, not, ◌&&◌}
use mathlib.Core.List.{List, [], ◌∷◌, ◌++◌, map, map-map, map-append}
use mathlib.Core.Option.{some}
use mathlib.Core.Path.{◌≡◌, refl, sym, ◌∙◌, ap, fun_ext}
use Prim.Native.Nat.{ℕ, zero, suc}
use Rattle.table.specs.Syntax.{Term, app, Terms, nil, ◌then◌, arity, under, unders, Literal, literal_under, Clause}
use Rattle.rules.specs.Substitution.{Variable, Substitution}
use Rattle.rules.specs.Tableau.{fresh, copy_of, atom, fits, Leaf, hang, ancestor, others}
use Rattle.rules.proofs.Lists.{none_some, map_take, map_drop, map_some, map_some_back}
use Rattle.rules.proofs.Substitution.{unders_unders}

-- a substitution of a clause's variables
abbrev pub Instance : Type 0
Instance = ℕ → Term Variable

unfoldable pub instance : Instance → Clause → List (Literal Variable)
instance θ clause = map (literal_under θ) clause.literals

unfoldable pub opposite : Literal Variable → Literal Variable
opposite l = record { negative = not l.negative; predicate = l.predicate; arguments = l.arguments }

-- what a substitution makes of the variables of one copy
unfoldable pub of_copy : Substitution → ℕ → Instance
of_copy σ copy number = σ (record { copy = copy; number = number })

unfoldable pub leaf_under : Substitution → Leaf → Leaf
leaf_under σ leaf = record { literal = literal_under σ leaf.literal; branch = map (literal_under σ) leaf.branch }

-- with the leaf's own sign
pub sign_under : (σ : Substitution) (leaf : Leaf) → (leaf_under σ leaf).literal.negative ≡ leaf.literal.negative
unfolding leaf_under literal_under
sign_under σ leaf = refl

module _ {X Y Z : Type 0} (σ : Y → Term Z) (τ : X → Term Y) where
  pub literal_under_lem : (l : Literal X) → literal_under σ (literal_under τ l) ≡ literal_under (λ x. under σ (τ x)) l
  unfolding literal_under
  literal_under_lem l = rw (unders_unders σ τ l.arguments)

pub arity_unders : {X Y : Type 0} (σ : X → Term Y) (ts : Terms X) → arity (unders σ ts) ≡ arity ts
unfolding arity unders
arity_unders σ nil = refl
arity_unders σ (t then ts) = ap suc (arity_unders σ ts)

module _ (f : Literal Variable → Literal Variable) where
  pub others_map : (n : ℕ) (ls : List (Literal Variable)) → map f (others n ls) ≡ others n (map f ls)
  unfolding others
  others_map n ls = rw (map-append f (take n ls) (drop (suc n) ls), map_take f n ls, map_drop f (suc n) ls)

  pub ancestor_map : (h : ℕ) (ls : List (Literal Variable)) {m : Literal Variable} → ancestor h ls ≡ some m → ancestor h (map f ls) ≡ some (f m)
  unfolding ancestor
  ancestor_map zero ls e = absurd (none_some e)
  ancestor_map (suc h) ls e = map_some f ls h e

  pub ancestor_map_back : (h : ℕ) (ls : List (Literal Variable)) {k : Literal Variable} → ancestor h (map f ls) ≡ some k
      → (m : Literal Variable) × (ancestor h ls ≡ some m) × (f m ≡ k)
  unfolding ancestor
  ancestor_map_back zero ls e = absurd (none_some e)
  ancestor_map_back (suc h) ls e = map_some_back f ls h e

-- an ancestor stands in the branch
pub ancestor_at : (h : ℕ) (ls : List (Literal Variable)) {m : Literal Variable} → ancestor h ls ≡ some m
    → (n : ℕ) × (h ≡ suc n) × (get_elem? ls n ≡ some m)
unfolding ancestor
ancestor_at zero ls e = absurd (none_some e)
ancestor_at (suc h) ls e = (h, refl, e)

opposed : (a b p q : Bool) → (not (beq a b) && p && q) ≡ true → b ≡ not a
opposed true true p q e = sym e
opposed true false p q e = refl
opposed false true p q e = refl
opposed false false p q e = e

opposing : (a : Bool) → not (beq a (not a)) ≡ true
opposing true = refl
opposing false = refl

module _ (σ : Substitution) where
  pub copy_under : (copy : ℕ) (clause : Clause) → map (literal_under σ) (copy_of copy clause) ≡ instance (of_copy σ copy) clause
  unfolding copy_of instance fresh of_copy under
  copy_under copy clause =
      map-map (literal_under σ) (literal_under (fresh copy)) clause.literals
      ∙ ap (λ (f : Literal ℕ → Literal Variable). map f clause.literals) (fun_ext (literal_under_lem σ (fresh copy)))

  pub hang_under : (branch ls : List (Literal Variable))
      → map (leaf_under σ) (hang branch ls) ≡ hang (map (literal_under σ) branch) (map (literal_under σ) ls)
  unfolding hang leaf_under
  hang_under branch [] = refl
  hang_under branch (l ∷ ls) = ap {B = List Leaf} (λ r. leaf_under σ (record { literal = l; branch = branch }) ∷ r) (hang_under branch ls)

  -- what hangs below a leaf, and the older leaves: all literals of a copy, or all but the entered one
  pub all_hung_under : (branch : List (Literal Variable)) (rest : List Leaf) (copy : ℕ) (clause : Clause)
      → map (leaf_under σ) (hang branch (copy_of copy clause) ++ rest)
      ≡ hang (map (literal_under σ) branch) (instance (of_copy σ copy) clause) ++ map (leaf_under σ) rest
  all_hung_under branch rest copy clause =
      rw (map-append (leaf_under σ) (hang branch (copy_of copy clause)) rest, hang_under branch (copy_of copy clause), copy_under copy clause)

  pub hung_under_lem : (branch : List (Literal Variable)) (rest : List Leaf) (copy j : ℕ) (clause : Clause)
      → map (leaf_under σ) (hang branch (others j (copy_of copy clause)) ++ rest)
      ≡ hang (map (literal_under σ) branch) (others j (instance (of_copy σ copy) clause)) ++ map (leaf_under σ) rest
  hung_under_lem branch rest copy j clause =
      rw (
        map-append (leaf_under σ) (hang branch (others j (copy_of copy clause))) rest,
        hang_under branch (others j (copy_of copy clause)),
        others_map (literal_under σ) j (copy_of copy clause),
        copy_under copy clause,
      )

  pub copy_some : (copy j : ℕ) (clause : Clause) {m : Literal Variable} → get_elem? (copy_of copy clause) j ≡ some m
      → get_elem? (instance (of_copy σ copy) clause) j ≡ some (literal_under σ m)
  copy_some copy j clause e = rw (copy_under copy clause) at (map_some (literal_under σ) (copy_of copy clause) j e)

  pub fit_opposite : (l m : Literal Variable) → fits l m ≡ true → under σ (atom l) ≡ under σ (atom m)
      → literal_under σ m ≡ opposite (literal_under σ l)
  unfolding fits atom under literal_under opposite
  fit_opposite l m f e =
      let n : m.negative ≡ not l.negative = opposed l.negative m.negative (eqb l.predicate m.predicate) (eqb (arity l.arguments) (arity m.arguments)) f in
      let p : m.predicate ≡ l.predicate = cc in
      let a : unders σ m.arguments ≡ unders σ l.arguments = cc in
      λ i. record { negative = n i; predicate = p i; arguments = a i }

  pub opposite_fits : (l m : Literal Variable) → literal_under σ m ≡ opposite (literal_under σ l) → fits l m ≡ true
  unfolding fits literal_under opposite
  opposite_fits l m e =
      let n : m.negative ≡ not l.negative = ap (λ (k : Literal Variable). k.negative) e in
      let p : m.predicate ≡ l.predicate = ap (λ (k : Literal Variable). k.predicate) e in
      let a : arity m.arguments ≡ arity l.arguments =
      sym (arity_unders σ m.arguments) ∙ ap (λ (k : Literal Variable). arity k.arguments) e ∙ arity_unders σ l.arguments in
      rw (n, p, a, opposing l.negative, eq-eqb l.predicate l.predicate refl, eq-eqb (arity l.arguments) (arity l.arguments) refl)

  pub opposite_atoms : (l m : Literal Variable) → literal_under σ m ≡ opposite (literal_under σ l) → under σ (atom l) ≡ under σ (atom m)
  unfolding atom under literal_under opposite
  opposite_atoms l m e = ap (λ (k : Literal Variable). app k.predicate k.arguments) (sym e)
