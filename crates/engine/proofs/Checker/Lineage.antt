-- The walk from a leaf up to the ancestor at a height, and the literals that it passes.
use mathlib.Core.Path.{◌≡◌, refl, sym, ap, ◌∙◌}
use mathlib.Core.Bool.{Bool, true, false, cond}
use mathlib.Core.List.{List, [], ◌∷◌, map}
use mathlib.Core.Option.{some}
use Prim.Native.Nat.{ℕ, zero, suc, ◌+◌, ◌-◌, ◌≤◌, ◌<◌}
use native.Mathlib.Omega.{arith}
use lib.Dec.{eqb}
use lib.ListN.{get_elem?}
use Rattle.rules.proofs.Lists.{none_some}
use Rattle.unification.specs.State.{literal_at, parent_at}
use Rattle.tableaux.specs.Leaves.{chain}
use Rattle.engine.specs.Checking.{Upward, lineage, above_of}
use Rattle.std.specs.Prelude.{Some, None}
use Rattle.tableaux.proofs.Chains.{chain_at, chain_past, chain_none}

-- how far the walk has come
pub record Climbing (m : List ℕ) (head height at left : ℕ) : Type 0 where
  pub low : 0 < at
  pub high : at ≤ head
  pub same : get_elem? (lineage m head) height ≡ get_elem? (lineage m at) left

lineage_suc : (m : List ℕ) (a p : ℕ) → p ≡ parent_at m a → p ≤ a → lineage m (suc a) ≡ literal_at m a ∷ lineage m p
lineage_suc m a p e up =
    let more : a ≡ a - p + p = omega arith in
    chain_at (literal_at m) (parent_at m) a
    ∙ ap (λ (l : List ℕ). literal_at m a ∷ l)
    (ap (λ (n : ℕ). chain (literal_at m) (parent_at m) a n) (sym e)
    ∙ ap (λ (n : ℕ). chain (literal_at m) (parent_at m) n p) more
    ∙ chain_past (literal_at m) (parent_at m) p (a - p) p (omega arith))

pub lineage_up : (m : List ℕ) (at : ℕ) → 0 < at → parent_at m (at - 1) ≤ at - 1 → lineage m at ≡ literal_at m (at - 1) ∷ lineage m (parent_at m (at - 1))
lineage_up m at h up =
    let here : at ≡ suc (at - 1) = omega arith in
    ap (λ (n : ℕ). lineage m n) here ∙ lineage_suc m (at - 1) (parent_at m (at - 1)) refl up

at_next : {A : Type 0} (xs ys : List A) (x : A) (n : ℕ) → xs ≡ x ∷ ys → (n ≡ 0 → ⊥) → get_elem? xs n ≡ get_elem? ys (n - 1)
at_next xs ys x zero e h = absurd (h refl)
at_next xs ys x (suc n) e h = let less : suc n - 1 ≡ n = omega arith in rw (e, less)

module _ (m : List ℕ) (head height : ℕ) where
  pub climb_begin : 0 < head → Climbing m head height head height
  climb_begin h = record { low = h; high = omega arith; same = refl }

  module _ {at left : ℕ} (g : Climbing m head height at left) where
    pub climb_end : left ≡ 0 → Upward m head → {r : ℕ} → r ≡ literal_at m (at - 1) → Some r ≡ above_of (get_elem? (lineage m head) height)
    climb_end z up e =
        let here = lineage_up m at g.low (up (at - 1) (omega (arith, g.low, g.high))) in
        rw (g.same, here, z, e)

    module _ (n : left ≡ 0 → ⊥) (up : Upward m head) {q : ℕ} (e : q ≡ parent_at m (at - 1)) where
      low-parent : parent_at m (at - 1) ≤ at - 1
      low-parent = up (at - 1) (omega (arith, g.low, g.high))

      next-same : get_elem? (lineage m head) height ≡ get_elem? (lineage m q) (left - 1)
      next-same = g.same ∙ at_next (lineage m at) _ _ left (lineage_up m at g.low low-parent) n ∙ rw e

      pub climb_none : q ≡ 0 → None ≡ above_of (get_elem? (lineage m head) height)
      climb_none z = let none_left : lineage m q ≡ [] = rw z (chain_none (literal_at m) (parent_at m) 0) in rw (next-same, none_left)

      pub climb_on : (q ≡ 0 → ⊥) → Climbing m head height q (left - 1)
      climb_on s = record { low = omega arith; high = omega (arith, low-parent, g.high); same = next-same }

pub ruleset climb_laws = (climb_begin, climb_end, climb_none, climb_on)

-- what a chain of items stands for, and where its members come from
pub chain_map : {A B : Type 0} (h : A → B) (item : ℕ → A) (link : ℕ → ℕ) (n head : ℕ) → chain (λ c. h (item c)) link n head ≡ map h (chain item link n head)
unfolding chain
chain_map h item link zero head = refl
chain_map h item link (suc n) head = rw (chain_map h item link n (link n), chain_map h item link n head) (go (eqb head (suc n)))
  where
    go : (b : Bool) → cond b (h (item n) ∷ map h (chain item link n (link n))) (map h (chain item link n head)) ≡ map h (cond b (item n ∷ chain item link n (link n)) (chain item link n head))
    go true = refl
    go false = refl

pub chain_member : {A : Type 0} (item : ℕ → A) (link : ℕ → ℕ) (n head k : ℕ) {a : A} → get_elem? (chain item link n head) k ≡ some a → (c : ℕ) × (c < n) × (item c ≡ a)
unfolding chain
chain_member item link zero head k e = absurd (none_some e)
chain_member item link (suc n) head k {a} e = go (eqb head (suc n)) k e (λ h j d. chain_member item link n h j d)
  where
    more : (c : ℕ) × (c < n) × (item c ≡ a) → (c : ℕ) × (c < suc n) × (item c ≡ a)
    more h = (h.0, omega (arith, h.1), h.2)

    go : (b : Bool) (k : ℕ) → get_elem? (cond b (item n ∷ chain item link n (link n)) (chain item link n head)) k ≡ some a
        → ((h j : ℕ) → get_elem? (chain item link n h) j ≡ some a → (c : ℕ) × (c < n) × (item c ≡ a)) → (c : ℕ) × (c < suc n) × (item c ≡ a)
    go true zero e rest = (n, omega arith, cc)
    go true (suc k) e rest = more (rest (link n) k e)
    go false k e rest = more (rest head k e)
