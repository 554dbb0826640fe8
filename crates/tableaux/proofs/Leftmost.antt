-- A place that is ready: its leftmost open leaf, the leaves right of it, and the room that is left.
use mathlib.Core.Path.{◌≡◌, sym, ap, ◌∙◌}
use mathlib.Core.List.{List, ◌∷◌}
use Prim.Native.Nat.{ℕ, suc, ◌+◌, ◌-◌, ◌≤◌, ◌<◌}
use native.Mathlib.Omega.{arith}
use lib.ListN.{length}
use Rattle.unification.specs.Places.{most_variables, most_leaves}
use Rattle.unification.specs.State.{count_of, parent_at, next_at}
use Rattle.tableaux.specs.Leaves.{chain, literal_of_leaf, branch_from, leaf_at, leaves_from}
use Rattle.tableaux.specs.Ready.{Ready, open_leaves, rest_of}
use Rattle.tableaux.specs.declared.tableau.Place.{Place}
use Rattle.tableaux.proofs.Chains.{chain_at, chain_past}

-- a chain from a head on: its first item, and the chain from that item's link on
module _ {A : Type 0} (item : ℕ → A) (link : ℕ → ℕ) (n head : ℕ) (some : 0 < head) (inside : head ≤ n) where
  pub chain_open : chain item link n head ≡ item (head - 1) ∷ chain item link (head - 1) (link (head - 1))
  chain_open =
      let h : suc (head - 1) ≡ head = omega arith in
      let k : n - head + head ≡ n = omega arith in
      ap (λ (x : ℕ). chain item link x head) (sym k)
      ∙ chain_past item link head (n - head) head (omega arith)
      ∙ ap (λ (x : ℕ). chain item link x x) (sym h)
      ∙ chain_at item link (head - 1)

  pub chain_rest : link (head - 1) ≤ head - 1 → chain item link (head - 1) (link (head - 1)) ≡ chain item link n (link (head - 1))
  chain_rest low =
      let k : n - (head - 1) + (head - 1) ≡ n = omega arith in
      sym (ap (λ (x : ℕ). chain item link x (link (head - 1))) (sym k) ∙ chain_past item link (head - 1) (n - (head - 1)) (link (head - 1)) low)

module _ {f m : List ℕ} {place : Place} (r : Ready f m place) where
  pub leaves_few : place.leaves ≤ most_leaves
  leaves_few = omega (arith, r.room, r.good.copies)

  pub count_few : count_of m ≤ most_variables
  count_few = omega (arith, r.good.room)

  module _ (some : 0 < place.head) where
    pub leaf_noted : place.head - 1 < place.leaves
    leaf_noted = omega (arith, r.head)

    pub rest_low : rest_of m place ≤ place.head - 1
    rest_low = r.noted.right (place.head - 1) leaf_noted

    pub open_leaf : open_leaves f m place ≡ leaf_at f m (place.head - 1) ∷ leaves_from f m place.leaves (rest_of m place)
    open_leaf =
        chain_open (leaf_at f m) (next_at m) place.leaves place.head some r.head
        ∙ ap (leaf_at f m (place.head - 1) ∷◌) (chain_rest (leaf_at f m) (next_at m) place.leaves place.head some r.head rest_low)

    pub open_branch : branch_from f m place.leaves place.head ≡ (leaf_at f m (place.head - 1)).literal ∷ (leaf_at f m (place.head - 1)).branch
    open_branch = chain_open (literal_of_leaf f m) (parent_at m) place.leaves place.head some r.head

    pub one_closed : place.steps + 1 + length (leaves_from f m place.leaves (rest_of m place)) ≡ place.leaves
    one_closed = omega (arith, r.taken, ap length open_leaf)

    pub steps_few : place.steps < place.leaves
    steps_few = omega (arith, one_closed)
