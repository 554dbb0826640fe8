-- A reduction on the work words: what it asks of the meeting, and the tableau after it.
use mathlib.Core.Path.{◌≡◌, refl, ◌∙◌}
use mathlib.Core.List.{List}
use Prim.Native.Nat.{ℕ, ◌+◌, ◌-◌, ◌≤◌, ◌<◌}
use native.Mathlib.Omega.{arith}
use lib.ListN.{length, get_or, set, length-set}
use lib.Seq.{get_or-set_same, get_or-set_other}
use Rattle.rules.specs.Tableau.{atom}
use Rattle.rules.specs.Machinery.Unify.{Unified, unify}
use Rattle.unification.specs.Places.{most_variables, most_leaves, value_places, literal_places, parent_places, next_places, step_places, number_places, count_place, trail_places, work_words, copies_place, start_places}
use Rattle.unification.specs.State.{copies_of, count_of, step_at, literal_at_reference, bindings_in}
use Rattle.unification.specs.Good.{LiteralStands, Alike as AlikeAt, Good, Met}
use Rattle.tableaux.specs.Leaves.{leaves_from}
use Rattle.tableaux.specs.Ready.{Later, open_leaves, leaf_of, rest_of, closed_at, Reducible, Reduced}
use Rattle.tableaux.specs.declared.tableau.Place.{Place}
use Rattle.std.specs.Prelude.{Result, Ok, Err}
use Rattle.unification.specs.declared.unify.Unmet.{Unmet}
use Rattle.unification.specs.declared.unify.Unmet.TheVariants.{Clash, Circle}
use Rattle.unification.specs.Good.{Outcome}
use Rattle.unification.proofs.Bound.{Copied}
use Rattle.tableaux.proofs.Leaves.{leaves_same}
use Rattle.tableaux.proofs.Kept.{literal_kept, word_kept, stands_kept, Carries, good_carried, bound_carried, later_leaves, later_noted, later_then, grown_later}
use Rattle.tableaux.proofs.Leftmost.{leaves_few, leaf_noted, rest_low, one_closed, steps_few}

-- a step noted
module _ (f m : List ℕ) (s step : ℕ) where
  abbrev noting : List ℕ
  noting = set m (step_places + s) step

  step_other : (i : ℕ) → (i ≡ step_places + s → ⊥) → get_or noting i 0 ≡ get_or m i 0
  step_other i n = get_or-set_other m (step_places + s) i step 0 n

  module _ (g : Good f m) where
    few : count_of m ≤ most_variables
    few = omega (arith, g.room)

    noting-copied : Copied m noting
    noting-copied =
        record { more = omega (arith, step_other copies_place (λ e. omega arith)); starts = λ c l. step_other (start_places + c) (λ e. omega (arith, g.copies)) }

    pub noting_carries : Carries f m noting
    noting_carries = record {
      change = record {
        size = length-set m (step_places + s) step;
        copied = noting-copied;
        trail = λ i l. step_other (trail_places + i) (λ e. omega (arith, few));
        others = λ v l n. step_other (value_places + v) (λ e. omega arith);
      };
      clauses = record {
        few = omega (arith, step_other copies_place (λ e. omega arith), g.copies);
        starts = λ c l. let b : c < copies_of m = omega (arith, step_other copies_place (λ e. omega arith)) in rw (noting-copied.starts c b) (g.starts c b);
      };
      count = step_other count_place (λ e. omega arith);
    }

    pub noting_later : (place : Place) → s < most_leaves → place.leaves ≤ most_leaves → place.steps ≤ s → Later m noting place
    noting_later place low leaves steps = record {
      more = omega (arith, step_other count_place (λ e. omega arith));
      trail = λ i l. step_other (trail_places + i) (λ e. omega (arith, few));
      bound = λ v l h. step_other (value_places + v) (λ e. omega arith);
      copies = noting-copied.more;
      starts = noting-copied.starts;
      literals = λ c l. step_other (literal_places + c) (λ e. omega arith);
      parents = λ c l. step_other (parent_places + c) (λ e. omega arith);
      nexts = λ c l. step_other (next_places + c) (λ e. omega arith);
      steps = λ i l. step_other (step_places + i) (λ e. omega arith);
      marks = λ v l. step_other (number_places + v) (λ e. omega arith);
      notes = λ i a b. step_other i (λ e. omega arith);
    }

module _ {f m : List ℕ} {place : Place} {ancestor : ℕ} (r : Reducible f m place ancestor) (step : ℕ) where
  abbrev begun : List ℕ
  begun = set m (step_places + place.steps) step

  carries : Carries f m begun
  carries = noting_carries f m place.steps step r.ready.good

  pub reduce_good : Good f begun
  reduce_good = good_carried r.ready.good carries

  pub reduce_small : (length m ≡ work_words) × (place.steps < most_leaves)
  reduce_small = (r.ready.good.size, omega (arith, leaves_few r.ready, steps_few r.ready r.some_open))

  leaf_stands : LiteralStands f m (leaf_of m place)
  leaf_stands = r.ready.noted.stands (place.head - 1) (leaf_noted r.ready r.some_open)

  pub reduce_alike : AlikeAt f begun (leaf_of m place) ancestor
  reduce_alike =
      let leaf = word_kept f carries.change.copied (leaf_of m place) leaf_stands.made in
      let other = word_kept f carries.change.copied ancestor r.stands.made in
      record {
        left = stands_kept f carries.change.copied leaf_stands;
        right = stands_kept f carries.change.copied r.stands;
        predicate = rw (leaf, other) r.alike.predicate;
        arity = rw (leaf, other) r.alike.arity;
      }

  module _ {m' : List ℕ} {q : Result (Unit {0}) Unmet} (met : Met f begun m' q (unify (bindings_in f begun) (atom (literal_at_reference f begun (leaf_of m place))) (atom (literal_at_reference f begun ancestor)))) where
    later : Later m m' place
    later =
        let few = leaves_few r.ready in
        let steps = steps_few r.ready r.some_open in
        later_then
        (noting_later f m place.steps step r.ready.good place (omega arith) (omega arith) (omega arith))
        (grown_later place reduce_good (omega arith) (omega arith) met.grown)

    same_copies : copies_of m' ≡ copies_of m
    same_copies = met.grown.kept.copies.words copies_place (omega arith) (omega arith) ∙ get_or-set_other m (step_places + place.steps) copies_place step 0 (λ e. omega arith)

    noted_step : step_at m' place.steps ≡ step
    noted_step =
        let few = leaves_few r.ready in
        let steps = steps_few r.ready r.some_open in
        met.grown.kept.leaves.words (step_places + place.steps) (omega arith) (omega arith)
        ∙ get_or-set_same m (step_places + place.steps) step 0 (omega (arith, r.ready.good.size))

    open_after : open_leaves f m' (closed_at m place) ≡ leaves_from f m place.leaves (rest_of m place)
    open_after = leaves_same f (later_leaves later r.ready.noted) place.leaves (rest_of m place) (omega arith)

    pub reduced : {r : Result Place Unmet} → ((u : Unified) → Outcome f m' q u → Outcome f m' r u) → ((next : Place) → r ≡ Ok next → next ≡ closed_at m place)
        → Reduced f m m' place ancestor step r
    reduced same leads = record {
      stepping = record { good = met.grown.good; later = later; noted = noted_step };
      outcome =
          same _
          (rw (← bound_carried r.ready.good carries, ← literal_kept f carries.change.copied (leaf_of m place) leaf_stands.made, ← literal_kept f carries.change.copied ancestor r.stands.made)
          met.outcome);
      ready = record {
        good = met.grown.good;
        noted = later_noted later r.ready.noted;
        head = omega (arith, rest_low r.ready r.some_open, r.ready.head);
        begun = omega (arith, same_copies, r.ready.begun);
        room = omega (arith, same_copies, r.ready.room);
        taken = rw open_after (one_closed r.ready r.some_open);
      };
      copies = same_copies;
      leaves = open_after;
      leads = leads;
    }

  -- the same, with the values as the code has them
  module _ {m₁ : List ℕ} (em : m₁ ≡ set m (step_places + place.steps) step) {literal : ℕ} (el : literal ≡ leaf_of m place) where
    pub reduce_meets : Good f m₁ × AlikeAt f m₁ literal ancestor
    reduce_meets = rw (em, el) (reduce_good, reduce_alike)

    pub reduced_as : {rest : ℕ} → rest ≡ rest_of m place → {m' : List ℕ}
        → Met f m₁ m' (Ok tt) (unify (bindings_in f m₁) (atom (literal_at_reference f m₁ literal)) (atom (literal_at_reference f m₁ ancestor)))
        → Reduced f m m' place ancestor step (Ok (record { head = rest; leaves = place.leaves; steps = place.steps + 1 }))
    reduced_as er {m'} met = rw er (reduced (rw (em, el) at met) (λ u o. o) (λ next e. cc))

    pub reduced_stops : {m' : List ℕ} {e : Unmet}
        → Met f m₁ m' (Err e) (unify (bindings_in f m₁) (atom (literal_at_reference f m₁ literal)) (atom (literal_at_reference f m₁ ancestor)))
        → Reduced f m m' place ancestor step (Err e)
    reduced_stops {m'} {e} met = reduced (rw (em, el) at met) (stopped e) (λ next e. cc)
      where
        stopped : (e : Unmet) (u : Unified) → Outcome {T = Unit {0}} f m' (Err e) u → Outcome {T = Place} f m' (Err e) u
        stopped Clash u o = o
        stopped Circle u o = o
