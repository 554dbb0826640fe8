-- What stays where only words past the bindings change: the bindings, and what every reference stands for.
use lib.ListN.{length}
use mathlib.Core.List.{List}
use mathlib.Core.Path.{◌≡◌, refl, ◌∙◌, ap, ap₂}
use native.Mathlib.Omega.{arith}
use Prim.Native.Nat.{ℕ, zero, suc, ◌+◌, ◌≤◌, ◌<◌}
use Rattle.table.specs.Syntax.{Terms, under, unders}
use Rattle.table.specs.Decode.{first}
use Rattle.rules.specs.Substitution.{Variable, Substitution}
use Rattle.rules.specs.Machinery.Unify.{solution}
use Rattle.unification.specs.Places.{most_variables, value_places, value_end, count_place, trail_places, copies_place}
use Rattle.unification.specs.State.{copies_of, count_of, bindings_in}
use Rattle.unification.specs.Good.{Same, Good, Ahead}
use Rattle.answers.specs.Writing.{items_of, items_among, resolved, term_items, copy_items}
use Rattle.unification.proofs.Bound.{Copied, kept_copied, kept_clauses, same_terms, same_points}
use Rattle.unification.proofs.Stores.{Change, same_bindings, same_held}

module _ {f m m' : List ℕ} (h : Good f m) (s : Same 0 value_end m m') where
  starts : Same 0 count_place m m'
  starts = record { words = λ i a b. s.words i a (omega arith) }

  pub copied : Copied m m'
  copied = kept_copied h.copies starts

  pub kept_copies : copies_of m' ≡ copies_of m
  kept_copies = s.words copies_place (omega arith) (omega arith)

  kept-count : count_of m' ≡ count_of m
  kept-count = s.words count_place (omega arith) (omega arith)

  change : length m' ≡ length m → Change m m' (count_of m) most_variables
  change size = record {
    size = size;
    copied = copied;
    trail = λ i l. s.words (trail_places + i) (omega arith) (omega (arith, h.room));
    others = λ u l d. s.words (value_places + u) (omega arith) (omega arith);
  }

  module _ (size : length m' ≡ length m) where
    pub good_kept : Good f m'
    good_kept = rw kept-count (same_held h (change size) (kept_clauses h starts))

    pub bound_kept : bindings_in f m' ≡ bindings_in f m
    bound_kept = rw kept-count (same_bindings h (change size) (count_of m) (omega arith))

    pub resolved_kept : resolved f m' ≡ resolved f m
    resolved_kept = ap solution bound_kept

    pub items_kept : (r n : ℕ) → Ahead f m r n → term_items f m' r n ≡ term_items f m r n
    unfolding term_items first under items_of
    items_kept r zero a = refl
    items_kept r (suc n) a =
        ap₂ (λ (σ : Substitution) (ts : Terms Variable). items_among (unders σ (first (suc n) ts))) resolved_kept
        (same_terms copied f r (a (omega arith)).made)

    pub copy_kept : (copy : ℕ) → copy < copies_of m → copy_items f m' copy ≡ copy_items f m copy
    unfolding copy_items
    copy_kept copy l = rw (resolved_kept, copied.starts copy l)

  pub ahead_kept : (r n : ℕ) → Ahead f m r n → Ahead f m' r n
  ahead_kept r n a l = same_points copied f r (a l).made (a l)
