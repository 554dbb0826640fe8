-- One binding more, and one binding fewer.
use borrow.Author.Tests.{eqb-true, eqb-false}
use lib.Dec.{eqb}
use lib.ListN.{length}
use mathlib.Core.Bool.{true, false}
use mathlib.Core.List.{List, ◌∷◌}
use mathlib.Core.Path.{◌≡◌, refl, sym, ◌∙◌}
use native.Mathlib.Omega.{arith}
use Prim.Native.Nat.{ℕ, zero, suc, ◌+◌, ◌-◌, ◌/◌, ◌≤◌, ◌<◌}
use Rattle.table.specs.Syntax.{under}
use Rattle.rules.specs.Machinery.Unify.{Binding, solution, occurs}
use Rattle.rules.proofs.Unify.Tests.{never, decide, same_refl}
use Rattle.rules.proofs.Unify.Solution as bindings
use Rattle.unification.specs.Places.{most_variables, most_copies}
use Rattle.unification.specs.State.{start_at, copies_of, trail_at, bound_at, ClauseAt, term_of, Points, variable_of, bindings_of, bindings_in}
use Rattle.unification.specs.Good.{Same, Entry, Held, Good}
use Rattle.unification.proofs.Bound.{variable_differs, Copied, Clauses, same_term, same_points, entry_small, on_trail, free_same, free_one, unbound}

-- all that bindings up to a number rest on stays, but for what one variable is bound to
pub record Change (m m' : List ℕ) (n v : ℕ) : Type 0 where
  pub size : length m' ≡ length m
  pub copied : Copied m m'
  pub trail : (i : ℕ) → i < n → trail_at m' i ≡ trail_at m i
  pub others : (u : ℕ) → u < most_variables → (u ≡ v → ⊥) → bound_at m' u ≡ bound_at m u

module _ {m m' : List ℕ} {n v : ℕ} (c : Change m m' n v) (f : List ℕ) (copies : copies_of m ≤ most_copies) where
  kept_entry : (t : ℕ) → (t ≡ v → ⊥) → Entry f m t → Entry f m' t
  kept_entry t d e =
      let same : bound_at m' t ≡ bound_at m t = c.others t (entry_small copies e) d in
      record {
        copy = omega (arith, e.copy, c.copied.more);
        bound = rw same e.bound;
        points = rw same (same_points c.copied f (bound_at m t - 1) e.points.made e.points);
      }

  module _ (apart : (i : ℕ) → i < n → trail_at m i ≡ v → ⊥) (entries : (i : ℕ) → i < n → Entry f m (trail_at m i)) where
    pub kept_bindings : (k : ℕ) → k ≤ n → bindings_of f m' k ≡ bindings_of f m k
    unfolding bindings_of
    kept_bindings zero l = refl
    kept_bindings (suc k) l =
        let e : Entry f m (trail_at m k) = entries k (omega arith) in
        let t : trail_at m' k ≡ trail_at m k = c.trail k (omega arith) in
        let b : bound_at m' (trail_at m k) ≡ bound_at m (trail_at m k) = c.others _ (entry_small copies e) (apart k (omega arith)) in
        rw (t, b, same_term c.copied f (bound_at m (trail_at m k) - 1) e.points.made, kept_bindings k (omega arith))

    kept_entries : (i : ℕ) → i < n → Entry f m' (trail_at m' i)
    kept_entries i l = rw (c.trail i l) (kept_entry (trail_at m i) (apart i l) (entries i l))

-- no binding changes
module _ {f m m' : List ℕ} {n : ℕ} (h : Held f m n) (c : Change m m' n most_variables) where
  trail-inside : (i : ℕ) → i < n → trail_at m i ≡ most_variables → ⊥
  trail-inside i l e = omega (arith, entry_small h.copies (h.entries i l), e)

  pub same_bindings : (k : ℕ) → k ≤ n → bindings_of f m' k ≡ bindings_of f m k
  same_bindings = kept_bindings c f h.copies trail-inside h.entries

  pub same_held : Clauses f m' → Held f m' n
  same_held k =
      record {
        size = c.size ∙ h.size;
        copies = k.few;
        starts = k.starts;
        entries = kept_entries c f h.copies trail-inside h.entries;
        listed = λ v l s. rw (same_bindings n (omega arith)) (h.listed v l (rw (c.others v l (λ e. omega arith)) at s));
        room = rw (free_same m m' most_variables (λ u l. c.others u l (λ e. omega arith))) h.room;
        sound = rw (same_bindings n (omega arith)) h.sound;
      }

-- a free variable is bound
module _ {f m m' : List ℕ} {n v : ℕ} (h : Held f m n) (c : Change m m' n v) (r : ℕ)
    (free : bound_at m v ≡ 0) (made : v / 16 < copies_of m) (here : bound_at m' v ≡ r + 1) (last : trail_at m' n ≡ v)
    (points : Points f m r 1) where
  new_apart : (i : ℕ) → i < n → trail_at m i ≡ v → ⊥
  new_apart i l e = omega (arith, rw e at (h.entries i l).bound, free)

  pub push_older : (k : ℕ) → k ≤ n → bindings_of f m' k ≡ bindings_of f m k
  push_older = kept_bindings c f h.copies new_apart h.entries

  abbrev new : Binding
  new = record { variable = variable_of v; value = term_of f m r }

  pub push_bindings : bindings_of f m' (suc n) ≡ new ∷ bindings_of f m n
  unfolding bindings_of
  push_bindings =
      let z : r + 1 - 1 ≡ r = omega arith in
      rw (last, here, z, same_term c.copied f r points.made, push_older n (omega arith))

  new-entry : Entry f m' v
  new-entry =
      let z : r + 1 - 1 ≡ r = omega arith in
      record {
        copy = omega (arith, made, c.copied.more);
        bound = omega (arith, here);
        points = rw (here, z) (same_points c.copied f r points.made points);
      }

  push_entries : (i : ℕ) → i < suc n → Entry f m' (trail_at m' i)
  push_entries i l =
      decide
      (eqb i n)
      (λ e. let z : i ≡ n = eqb-true i n e in rw (z, last) new-entry)
      (λ e. let z : i ≡ n → ⊥ = eqb-false i n e in kept_entries c f h.copies new_apart h.entries i (omega arith))

  push_listed : (u : ℕ) → u < most_variables → 0 < bound_at m' u → bindings.is_bound (new ∷ bindings_of f m n) (variable_of u) ≡ true
  unfolding bindings.is_bound
  push_listed u l s =
      decide
      (eqb v u)
      (λ e. let z : v ≡ u = eqb-true v u e in rw (z, same_refl (variable_of u)))
      (λ e. let z : v ≡ u → ⊥ = eqb-false v u e in
      rw (variable_differs v u z) (h.listed u l (rw (c.others u l (λ q. z (sym q))) at s)))

  module _ (followed : bindings.Followed (bindings_of f m n) (term_of f m r))
      (apart : occurs (variable_of v) (under (solution (bindings_of f m n)) (term_of f m r)) ≡ false) where
    pub push_held : Clauses f m' → Held f m' (suc n)
    unfolding bindings.Good
    push_held k =
        record {
          size = c.size ∙ h.size;
          copies = k.few;
          starts = k.starts;
          entries = push_entries;
          listed = λ u l s. rw push_bindings (push_listed u l s);
          room = omega (arith, h.room, free_one m m' v most_variables (omega (arith, made, h.copies)) free (omega (arith, here)) (λ u l d. c.others u l d));
          sound = rw push_bindings (record { unbound = unbound h v free; followed = followed; apart = apart }, h.sound);
        }

-- the last binding is gone
module _ {f m m' : List ℕ} {n : ℕ} (h : Held f m (suc n)) (c : Change m m' n (trail_at m n)) (here : bound_at m' (trail_at m n) ≡ 0) where
  pub pop_apart : (i : ℕ) → i < n → trail_at m i ≡ trail_at m n → ⊥
  unfolding bindings_of bindings.Good
  pop_apart i l e = never (on_trail f m n i l) (rw (← e) at h.sound.0.unbound)

  old-entries : (i : ℕ) → i < n → Entry f m (trail_at m i)
  old-entries i l = h.entries i (omega arith)

  pub pop_older : (k : ℕ) → k ≤ n → bindings_of f m' k ≡ bindings_of f m k
  pop_older = kept_bindings c f h.copies pop_apart old-entries

  pop-listed : (u : ℕ) → u < most_variables → 0 < bound_at m' u → bindings.is_bound (bindings_of f m n) (variable_of u) ≡ true
  unfolding bindings.is_bound bindings_of
  pop-listed u l s =
      decide
      (eqb (trail_at m n) u)
      (λ e. let z : trail_at m n ≡ u = eqb-true (trail_at m n) u e in absurd (omega (arith, s, rw z at here)))
      (λ e. let z : trail_at m n ≡ u → ⊥ = eqb-false (trail_at m n) u e in
      rw (variable_differs (trail_at m n) u z) at (h.listed u l (rw (c.others u l (λ q. z (sym q))) at s)))

  pub pop_held : Clauses f m' → Held f m' n
  unfolding bindings_of bindings.Good
  pop_held k =
      let e : Entry f m (trail_at m n) = h.entries n (omega arith) in
      record {
        size = c.size ∙ h.size;
        copies = k.few;
        starts = k.starts;
        entries = kept_entries c f h.copies pop_apart old-entries;
        listed = λ u l s. rw (pop_older n (omega arith)) (pop-listed u l s);
        room = omega (arith, h.room, free_one m' m (trail_at m n) most_variables (entry_small h.copies e) here e.bound (λ u l d. sym (c.others u l d)));
        sound = rw (pop_older n (omega arith)) h.sound.1;
      }
