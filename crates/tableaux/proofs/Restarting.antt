-- A restart on the work words: a copy of the question made, and all its literals hung under the leftmost leaf.
use mathlib.Core.Path.{◌≡◌, sym, ◌∙◌}
use mathlib.Core.List.{List}
use Prim.Native.Nat.{ℕ, ◌+◌, ◌≤◌, ◌<◌}
use native.Mathlib.Omega.{arith}
use lib.ListN.{length, get_or}
use Rattle.words.specs.Fields.{literals_of}
use Rattle.unification.specs.Places.{most_leaves, work_words, most_copies}
use Rattle.unification.specs.State.{copies_of}
use Rattle.tableaux.specs.Ready.{Openable, Restarted, opened, hanging_at, hung_under, place_under}
use Rattle.tableaux.specs.declared.tableau.Place.{Place}
use Rattle.tableaux.proofs.Literals.{clause_few, hanging_all}
use Rattle.tableaux.proofs.Kept.{bound_carried}
use Rattle.tableaux.proofs.Opening.{begun_carries, begun_good, one_more, after_carries, hung_under_lem, hung_one_more, under_inside}

module _ {f m : List ℕ} {place : Place} {question : ℕ} (x : Openable f m place question) (step : ℕ) where
  few : length (hanging_at f question 0) ≤ 7
  few = omega (arith, hanging_all x.clause, clause_few x.clause)

  restarted : Restarted f m (hung_under f (opened m question place.steps step) place question (copies_of m) 0) place question step (place_under f (opened m question place.steps step) place question 0)
  restarted = record {
    copied = hung_one_more x 0 few (one_more x step);
    bindings = bound_carried (begun_good x step) (after_carries x 0 few (one_more x step)) ∙ bound_carried x.ready.good (begun_carries x step);
    hung = hung_under_lem x 0 few (one_more x step);
  }

  -- the same, with the values as the code has them
  module _ {copy : ℕ} {m₁ : List ℕ} (eo : (copy ≡ copies_of m) × (m₁ ≡ opened m question place.steps step)) where
    pub restart_under : {count : ℕ} → count ≡ literals_of (get_or f question 0)
        → ((length m₁ ≡ work_words) × (copy < most_copies) × (0 < place.head) × (place.head ≤ place.leaves) × (place.leaves < most_leaves) × (place.leaves + count ≤ most_leaves) × (place.steps < most_leaves)) × (count ≡ length (hanging_at f question 0))
    restart_under en =
        let counted = en ∙ sym (hanging_all x.clause) in
        rw eo.1 (under_inside x 0 few (one_more x step) eo.0 counted, counted)

    pub restarted_as : {m₂ : List ℕ} {r : Place} → (r ≡ place_under f m₁ place question 0) × (m₂ ≡ hung_under f m₁ place question copy 0) → Restarted f m m₂ place question step r
    restarted_as e = rw (e.0, e.1, eo.0, eo.1) restarted
