-- What is bound has grown, and the outcomes of binding a variable, one law for each, with premises as the code has them.
use Rattle.std.specs.Prelude.{Ok, Err}
use lib.ListN.{length, get_or, set, length-set}
use lib.Seq.{get_or-set_same, get_or-set_other}
use mathlib.Core.Bool.{Bool, true, false}
use mathlib.Core.List.{List, ◌∷◌}
use mathlib.Core.Path.{◌≡◌, refl, sym, ◌∙◌}
use native.Mathlib.Numerals.{add-one}
use native.Mathlib.Omega.{arith}
use Prim.Native.Nat.{ℕ, suc, ◌+◌, ◌-◌, ◌<◌, ◌≤◌}
use Rattle.rules.specs.Machinery.Unify.{bind}
use Rattle.rules.proofs.Unify.Laws.{bind_made, bind_circle}
use Rattle.unification.specs.Places.{most_variables, most_references, value_places, count_place, trail_places, work_words, most_copies}
use Rattle.unification.specs.State.{copies_of, count_of, trail_at, bound_at, term_of, variable_of, bindings_in}
use Rattle.unification.specs.Good.{Same, Good, Kept, Grown, pushed, Binds, Met, occurs_under}
use Rattle.unification.specs.declared.unify.Unmet.TheVariants.{Circle}
use Rattle.unification.proofs.Bound.{free_some, kept_copied, kept_clauses, entry_small}
use Rattle.unification.proofs.Stores.{Change, push_older, push_bindings, push_held}
use Rattle.unification.proofs.Walk.{small}

-- nothing has grown; more has grown
pub same_none : {from to : ℕ} {m : List ℕ} → Same from to m m
same_none = record { words = λ i l k. refl }

pub same_then : {from to : ℕ} {m m' m'' : List ℕ} → Same from to m m' → Same from to m' m'' → Same from to m m''
same_then s t = record { words = λ i l k. t.words i l k ∙ s.words i l k }

pub grown_none : {f m : List ℕ} → Good f m → Grown f m m
grown_none h =
    record {
      good = h;
      kept = record { copies = same_none; spare = same_none; between = same_none; leaves = same_none };
      more = omega arith;
      older = λ n l. refl;
      trail = λ i l. refl;
      values = λ i l. refl;
    }

pub grown_then : {f m m' m'' : List ℕ} → Grown f m m' → Grown f m' m'' → Grown f m m''
grown_then g h =
    record {
      good = h.good;
      kept =
          record {
            copies = same_then g.kept.copies h.kept.copies;
            spare = same_then g.kept.spare h.kept.spare;
            between = same_then g.kept.between h.kept.between;
            leaves = same_then g.kept.leaves h.kept.leaves;
          };
      more = omega (arith, g.more, h.more);
      older = λ n l. h.older n (omega (arith, g.more)) ∙ g.older n l;
      trail = λ i l. h.trail i (omega (arith, g.more)) ∙ g.trail i l;
      values = λ i l. rw (g.trail i l) at (h.values i (omega (arith, g.more))) ∙ g.values i l;
    }

-- the words of one more binding
module _ (m : List ℕ) (v r : ℕ) (size : length m ≡ work_words) (room : count_of m < most_variables) (small : v < most_variables) where
  pushed-other : (i : ℕ) → (i ≡ count_place → ⊥) → (i ≡ trail_places + count_of m → ⊥) → (i ≡ value_places + v → ⊥) → get_or (pushed m v r) i 0 ≡ get_or m i 0
  pushed-other i a b c =
      get_or-set_other (set (set m (trail_places + count_of m) v) (value_places + v) (r + 1)) count_place i (count_of m + 1) 0 a
      ∙ get_or-set_other (set m (trail_places + count_of m) v) (value_places + v) i (r + 1) 0 c
      ∙ get_or-set_other m (trail_places + count_of m) i v 0 b

  pub pushed_count : count_of (pushed m v r) ≡ suc (count_of m)
  pushed_count =
      get_or-set_same (set (set m (trail_places + count_of m) v) (value_places + v) (r + 1)) count_place (count_of m + 1) 0 (simp length-set (omega arith))
      ∙ add-one (count_of m)

  pushed-last : trail_at (pushed m v r) (count_of m) ≡ v
  pushed-last =
      get_or-set_other (set (set m (trail_places + count_of m) v) (value_places + v) (r + 1)) count_place (trail_places + count_of m) (count_of m + 1) 0 (λ e. omega arith)
      ∙ get_or-set_other (set m (trail_places + count_of m) v) (value_places + v) (trail_places + count_of m) (r + 1) 0 (λ e. omega arith)
      ∙ get_or-set_same m (trail_places + count_of m) v 0 (omega arith)

  pub pushed_here : bound_at (pushed m v r) v ≡ r + 1
  pushed_here =
      get_or-set_other (set (set m (trail_places + count_of m) v) (value_places + v) (r + 1)) count_place (value_places + v) (count_of m + 1) 0 (λ e. omega arith)
      ∙ get_or-set_same (set m (trail_places + count_of m) v) (value_places + v) (r + 1) 0 (simp length-set (omega arith))

  pub pushed_kept : Kept m (pushed m v r)
  pushed_kept =
      record {
        copies = record { words = λ i l k. pushed-other i (λ e. omega arith) (λ e. omega arith) (λ e. omega arith) };
        spare = record { words = λ i l k. pushed-other i (λ e. omega arith) (λ e. omega arith) (λ e. omega arith) };
        between = record { words = λ i l k. pushed-other i (λ e. omega arith) (λ e. omega arith) (λ e. omega arith) };
        leaves = record { words = λ i l k. pushed-other i (λ e. omega arith) (λ e. omega arith) (λ e. omega arith) };
      }

  pub pushed_change : copies_of m ≤ most_copies → Change m (pushed m v r) (count_of m) v
  pushed_change few =
      record {
        size = simp length-set;
        copied = kept_copied few pushed_kept.copies;
        trail = λ i l. pushed-other (trail_places + i) (λ e. omega arith) (λ e. omega arith) (λ e. omega arith);
        others = λ u l d. pushed-other (value_places + u) (λ e. omega arith) (λ e. omega arith) (λ e. d (omega arith));
      }

module _ {f m : List ℕ} {v r : ℕ} (h : Good f m) (b : Binds f m v r) where
  pub bind_small : v < most_variables
  bind_small = omega (arith, b.copy, h.copies)

  pub bind_room : count_of m < most_variables
  bind_room = omega (arith, h.room, free_some m v most_variables bind_small b.free)

  pub bind_reference : r < most_references
  bind_reference = small h b.points

  module _ {q : Bool} (eq : q ≡ occurs_under f m v (term_of f m r)) where
    pub bind_occurs : q ≡ true → Met f m m (Err Circle) (bind (bindings_in f m) (variable_of v) (term_of f m r))
    bind_occurs e = record { grown = grown_none h; outcome = bind_circle (bindings_in f m) (variable_of v) (term_of f m r) (sym eq ∙ e) }

    module _ (e : q ≡ false) where
      change : Change m (pushed m v r) (count_of m) v
      change = pushed_change m v r h.size bind_room bind_small h.copies

      here : bound_at (pushed m v r) v ≡ r + 1
      here = pushed_here m v r h.size bind_room bind_small

      last : trail_at (pushed m v r) (count_of m) ≡ v
      last = pushed-last m v r h.size bind_room bind_small

      count : count_of (pushed m v r) ≡ suc (count_of m)
      count = pushed_count m v r h.size bind_room bind_small

      pushed-grown : Grown f m (pushed m v r)
      pushed-grown =
          record {
            good = rw count (push_held h change r b.free b.copy here last b.points b.followed (sym eq ∙ e) (kept_clauses h (pushed_kept m v r h.size bind_room bind_small).copies));
            kept = pushed_kept m v r h.size bind_room bind_small;
            more = omega (arith, count);
            older = push_older h change r b.free b.copy here last b.points;
            trail = change.trail;
            values = λ i l.
                let t = h.entries i l in
                change.others _ (entry_small h.copies t) (λ z. omega (arith, rw z at t.bound, b.free));
          }

      pub pushed_bound : bindings_in f (pushed m v r) ≡ record { variable = variable_of v; value = term_of f m r } ∷ bindings_in f m
      pushed_bound = rw count (push_bindings h change r b.free b.copy here last b.points)

      pub bind_pushed : {m' : List ℕ} → m' ≡ pushed m v r → Met f m m' (Ok tt) (bind (bindings_in f m) (variable_of v) (term_of f m r))
      bind_pushed {m'} em =
          record {
            grown = rw em pushed-grown;
            outcome = rw (em, pushed_bound) (bind_made (bindings_in f m) (variable_of v) (term_of f m r) (sym eq ∙ e));
          }
