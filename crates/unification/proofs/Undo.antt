-- The last bindings are taken back: the outcomes, one law for each, with premises as the code has them.
use lib.ListN.{set, length-set}
use lib.Seq.{get_or-set_same, get_or-set_other}
use mathlib.Core.List.{List}
use mathlib.Core.Path.{◌≡◌, refl, ◌∙◌, ap, subst}
use native.Mathlib.Omega.{arith}
use Prim.Native.Nat.{ℕ, suc, ◌+◌, ◌-◌, ◌≤◌, ◌<◌}
use Rattle.unification.specs.Places.{most_variables, value_places, value_end, count_place, spare_places, trail_places, work_words}
use Rattle.unification.specs.State.{count_of, trail_at, bound_at, bindings_of}
use Rattle.unification.specs.Good.{Same, Held, Good, Undone}
use Rattle.unification.proofs.Bound.{kept_copied, kept_clauses, entry_small}
use Rattle.unification.proofs.Stores.{Change, same_bindings, same_held, pop_apart, pop_older, pop_held}
use Rattle.unification.proofs.Push.{same_none, same_then}

-- so many bindings are left
pub record Popped (f m₀ m : List ℕ) (kept count : ℕ) : Type 0 where
  pub held : Held f m count
  pub least : kept ≤ count
  pub older : (k : ℕ) → k ≤ count → bindings_of f m k ≡ bindings_of f m₀ k
  pub stays : (v : ℕ) → v < most_variables → 0 < bound_at m v → bound_at m v ≡ bound_at m₀ v
  pub copies : Same 0 count_place m₀ m
  pub trail : Same spare_places value_places m₀ m
  pub values : (i : ℕ) → i < count → bound_at m (trail_at m₀ i) ≡ bound_at m₀ (trail_at m₀ i)
  pub leaves : Same value_end work_words m₀ m

set_same : (m : List ℕ) (i x from to : ℕ) → ((j : ℕ) → from ≤ j → j < to → j ≡ i → ⊥) → Same from to m (set m i x)
set_same m i x from to d = record { words = λ j l k. get_or-set_other m i j x 0 (d j l k) }

module _ {f m₀ m : List ℕ} {kept count : ℕ} (g : Popped f m₀ m kept count) where
  pub pop_few : count ≤ most_variables
  pop_few = omega (arith, g.held.room)

  module _ (more : kept < count) {i v w : ℕ} (ei : i ≡ count - 1) (ev : v ≡ trail_at m i) (ew : w ≡ v) where
    named : w ≡ trail_at m (count - 1)
    named = ew ∙ ev ∙ ap (λ (k : ℕ). trail_at m k) ei

    held : Held f m (suc (count - 1))
    held = let z : count ≡ suc (count - 1) = omega arith in rw z at g.held

    pub pop_small : w < most_variables
    pop_small = rw named (entry_small held.copies (held.entries (count - 1) (omega arith)))

    change : Change m (set m (value_places + w) 0) (count - 1) w
    change =
        record {
          size = length-set m (value_places + w) 0;
          copied = kept_copied held.copies (set_same m (value_places + w) 0 0 count_place (λ j l k e. omega arith));
          trail = λ j l. get_or-set_other m (value_places + w) (trail_places + j) 0 0 (λ e. omega (arith, pop_few));
          others = λ u l d. get_or-set_other m (value_places + w) (value_places + u) 0 0 (λ e. d (omega arith));
        }

    here : bound_at (set m (value_places + w) 0) w ≡ 0
    here = get_or-set_same m (value_places + w) 0 0 (omega (arith, held.size, pop_small))

    pub pop_on : Popped f m₀ (set m (value_places + w) 0) kept (count - 1)
    pop_on =
        let c : Change m (set m (value_places + w) 0) (count - 1) (trail_at m (count - 1)) = subst (λ (t : ℕ). Change m (set m (value_places + w) 0) (count - 1) t) named change in
        let z : bound_at (set m (value_places + w) 0) (trail_at m (count - 1)) ≡ 0 = subst (λ (t : ℕ). bound_at (set m (value_places + w) 0) t ≡ 0) named here in
        record {
          held = pop_held held c z (kept_clauses held (set_same m (value_places + w) 0 0 count_place (λ j l k e. omega arith)));
          least = omega arith;
          older = λ k l. pop_older held c z k l ∙ g.older k (omega arith);
          stays = λ u s l. let same : bound_at (set m (value_places + w) 0) u ≡ bound_at m u = change.others u s (λ e. omega (arith, rw e at l, here)) in same ∙ g.stays u s (rw same at l);
          copies = same_then g.copies (set_same m (value_places + w) 0 0 count_place (λ j l k e. omega arith));
          trail = same_then g.trail (set_same m (value_places + w) 0 spare_places value_places (λ j l k e. omega arith));
          values = λ i l.
              let t : trail_at m i ≡ trail_at m₀ i = g.trail.words (trail_places + i) (omega arith) (omega (arith, pop_few)) in
              let s = entry_small held.copies (held.entries i (omega arith)) in
              rw t at (c.others (trail_at m i) s (pop_apart held c z i l)) ∙ g.values i (omega arith);
          leaves = same_then g.leaves (set_same m (value_places + w) 0 value_end work_words (λ j l k e. omega (arith, pop_small)));
        }

  pub pop_done : count ≤ kept → Undone f m₀ (set m count_place kept) kept
  pop_done l =
      let z : count ≡ kept = omega (arith, g.least) in
      let h : Held f m kept = rw z at g.held in
      let n : count_of (set m count_place kept) ≡ kept = get_or-set_same m count_place kept 0 (omega (arith, h.size)) in
      let c : Change m (set m count_place kept) kept most_variables =
      record {
        size = length-set m count_place kept;
        copied = kept_copied h.copies (set_same m count_place kept 0 count_place (λ j l k e. omega arith));
        trail = λ j l. get_or-set_other m count_place (trail_places + j) kept 0 (λ e. omega arith);
        others = λ u l d. get_or-set_other m count_place (value_places + u) kept 0 (λ e. omega arith);
      } in
      record {
        good = rw n (same_held h c (kept_clauses h (set_same m count_place kept 0 count_place (λ j l k e. omega arith))));
        count = n;
        bindings = rw n (same_bindings h c kept (omega arith) ∙ g.older kept (omega arith));
        stays = λ u s l. let same : bound_at (set m count_place kept) u ≡ bound_at m u = c.others u s (λ e. omega arith) in same ∙ g.stays u s (rw same at l);
        copies = same_then g.copies (set_same m count_place kept 0 count_place (λ j l k e. omega arith));
        trail = same_then g.trail (set_same m count_place kept spare_places value_places (λ j l k e. omega arith));
        values = λ i l. get_or-set_other m count_place (value_places + trail_at m₀ i) kept 0 (λ e. omega arith) ∙ g.values i (omega arith);
        leaves = same_then g.leaves (set_same m count_place kept value_end work_words (λ j l k e. omega arith));
      }
