-- An extension on the work words: what it asks of the meeting, and the tableau after it.
use mathlib.Core.Path.{◌≡◌, sym, ap, ◌∙◌}
use mathlib.Core.List.{List}
use Prim.Native.Nat.{ℕ, ◌+◌, ◌*◌, ◌-◌, ◌/◌, ◌%◌, ◌≤◌, ◌<◌}
use native.Mathlib.Omega.{arith}
use lib.ListN.{length, get_or}
use Rattle.words.specs.Fields.{literals_of}
use Rattle.rules.specs.Tableau.{atom}
use Rattle.rules.specs.Machinery.Unify.{Unified, made, unify}
use Rattle.unification.specs.Places.{most_leaves, step_places, work_words, most_copies, copies_place}
use Rattle.unification.specs.State.{start_at, copies_of, step_at, literal_at_reference, bindings_in}
use Rattle.unification.specs.Good.{word_at, LiteralStands, Alike as AlikeAt, Good, Outcome, Met}
use Rattle.unification.specs.Thorough.{Apart}
use Rattle.unification.proofs.Newest.{good_older}
use Rattle.tableaux.specs.Ready.{Later, OneMore, leaf_of, Extensible, Extended, opened, hanging_at, hung_under, place_under}
use Rattle.tableaux.specs.declared.tableau.Place.{Place}
use Rattle.std.specs.Prelude.{Result, Ok, Err}
use Rattle.unification.specs.declared.unify.Unmet.{Unmet}
use Rattle.unification.specs.declared.unify.Unmet.TheVariants.{Clash, Circle}
use Rattle.tableaux.proofs.Literals.{clause_read, clause_some, clause_few, hanging_fewer}
use Rattle.tableaux.proofs.Kept.{literal_kept, word_kept, stands_kept, bound_carried, later_copies, later_then, grown_later}
use Rattle.tableaux.proofs.Leftmost.{leaves_few}
use Rattle.tableaux.proofs.Hung.{reads_stands}
use Rattle.tableaux.proofs.Opening.{steps_small, leaf_stands, begun_copies, begun_start, begun_copied, begun_carries, begun_good, one_more, begun_leaf, after_carries, hung_under_lem, hung_one_more, under_inside}

-- where a meeting was made, and the same is bound
made_kept : (f m m' : List ℕ) (u : Unified) → bindings_in f m' ≡ bindings_in f m → u ≡ made (bindings_in f m) → u ≡ made (bindings_in f m')
made_kept f m m' u e o = o ∙ ap made (sym e)

-- the same of a place
stopped_as : (f m : List ℕ) (e : Unmet) (u : Unified) → Outcome {T = Unit {0}} f m (Err e) u → Outcome {T = Place} f m (Err e) u
stopped_as f m Clash u o = o
stopped_as f m Circle u o = o

module _ {f m : List ℕ} {place : Place} {start offset : ℕ} (x : Extensible f m place start offset) (step : ℕ) where
  abbrev begun : List ℕ
  begun = opened m start place.steps step

  abbrev new : ℕ
  new = copies_of m * 256 + offset

  new_stands : (offset < 256) × LiteralStands f begun new
  new_stands =
      reads_stands (copies_of m) (begun_start x.openable step) (omega (arith, begun_copies x.openable step)) (clause_read x.openable.clause x.number x.entered)

  new_word : word_at f begun new ≡ get_or f (start + offset) 0
  new_word =
      let small = new_stands.0 in
      let c : new / 256 ≡ copies_of m = omega arith in
      let n : new % 256 ≡ offset = omega arith in
      rw (c, n, begun_start x.openable step)

  pub extend_small : (copies_of m < most_copies) × (offset < 256)
  extend_small = (x.openable.copies, new_stands.0)

  begun-alike : AlikeAt f begun (leaf_of m place) new
  begun-alike =
      let leaf = leaf_stands x.openable in
      let kept = word_kept f (begun_copied x.openable step) (leaf_of m place) leaf.made in
      record {
        left = stands_kept f (begun_copied x.openable step) leaf;
        right = new_stands.1;
        predicate = rw (kept, new_word) x.alike.predicate;
        arity = rw (kept, new_word) x.alike.arity;
      }

  -- nothing leads to the copy that was just made
  begun_apart : Apart f begun (leaf_of m place) new
  begun_apart =
      let small = new_stands.0 in
      let c : new / 256 ≡ copies_of m = omega arith in
      record {
        lower = omega (arith, (leaf_stands x.openable).made);
        older = rw (c, bound_carried x.openable.ready.good (begun_carries x.openable step)) (good_older x.openable.ready.good);
      }

  fewer : length (hanging_at f start offset) ≡ literals_of (get_or f start 0) - 1
  fewer = hanging_fewer x.openable.clause x.number x.entered

  few : length (hanging_at f start offset) ≤ 7
  few = omega (arith, fewer, clause_few x.openable.clause)

  module _ {m₂ : List ℕ} {q : Result (Unit {0}) Unmet} (met : Met f begun m₂ q (unify (bindings_in f begun) (atom (literal_at_reference f begun (leaf_of m place))) (atom (literal_at_reference f begun new)))) where
    met_later : Later begun m₂ place
    met_later =
        let small = steps_small x.openable in
        grown_later place (begun_good x.openable step) (omega (arith, leaves_few x.openable.ready)) (omega arith) met.grown

    met_one_more : OneMore f m m₂ place start step
    met_one_more =
        let small = steps_small x.openable in
        let k = one_more x.openable step in
        record {
          stepping = record {
            good = met.grown.good;
            later = later_then k.stepping.later met_later;
            noted = met.grown.kept.leaves.words (step_places + place.steps) (omega arith) (omega arith) ∙ k.stepping.noted;
          };
          copies = met.grown.kept.copies.words copies_place (omega arith) (omega arith) ∙ k.copies;
          starts = met_later.starts (copies_of m) (omega (arith, k.copies)) ∙ k.starts;
        }

    met_outcome : Outcome f m₂ q (unify (bindings_in f m) (atom (literal_at_reference f m (leaf_of m place))) (atom (literal_at_reference f m₂ new)))
    met_outcome =
        rw (
          ← bound_carried x.openable.ready.good (begun_carries x.openable step),
          ← literal_kept f (begun_copied x.openable step) (leaf_of m place) (leaf_stands x.openable).made,
          literal_kept f (later_copies met_later) new new_stands.1.made,
        )
        met.outcome

    pub stopped : {e : Unmet} → q ≡ Err e → Extended f m m₂ place start offset step (Err e)
    stopped {e} is = record { copied = met_one_more; outcome = stopped_as f m₂ e _ (rw is at met_outcome); hung = λ next o. let z : ◌≡◌ {A = ℕ} 0 1 = cc in absurd (omega arith) }

    abbrev last : List ℕ
    last = hung_under f m₂ place start (copies_of m) offset

    pub went_on : q ≡ Ok tt → Extended f m last place start offset step (Ok (place_under f m₂ place start offset))
    went_on is =
        let carries = after_carries x.openable offset few met_one_more in
        record {
          copied = hung_one_more x.openable offset few met_one_more;
          outcome =
              made_kept f m₂ last _
              (bound_carried met.grown.good carries)
              (rw (literal_kept f carries.change.copied new (omega (arith, new_stands.1.made, begun_copies x.openable step, met_one_more.copies))) (rw is at met_outcome));
          hung = λ next o. let same : next ≡ place_under f m₂ place start offset = cc in rw same (hung_under_lem x.openable offset few met_one_more);
        }

  -- the same, with the values as the code has them
  module _ {copy : ℕ} {m₁ : List ℕ} (eo : (copy ≡ copies_of m) × (m₁ ≡ opened m start place.steps step)) {literal : ℕ} (el : literal ≡ leaf_of m₁ place) where
    literal_is : literal ≡ leaf_of m place
    literal_is = el ∙ ap (λ (l : List ℕ). leaf_of l place) eo.1 ∙ begun_leaf x.openable step

    pub extend_meets : Good f m₁ × AlikeAt f m₁ literal (copy * 256 + offset) × Apart f m₁ literal (copy * 256 + offset)
    extend_meets = rw (literal_is, eo.0, eo.1) (begun_good x.openable step, begun-alike, begun_apart)

    module _ {m₂ : List ℕ} {q : Result (Unit {0}) Unmet} (met : Met f m₁ m₂ q (unify (bindings_in f m₁) (atom (literal_at_reference f m₁ literal)) (atom (literal_at_reference f m₁ (copy * 256 + offset))))) where
      met_as : Met f begun m₂ q (unify (bindings_in f begun) (atom (literal_at_reference f begun (leaf_of m place))) (atom (literal_at_reference f begun new)))
      met_as = rw (literal_is, eo.0, eo.1) at met

      pub extend_stopped : {e : Unmet} → q ≡ Err e → Extended f m m₂ place start offset step (Err e)
      extend_stopped = stopped met_as

      pub extend_some : {n : ℕ} → n ≡ literals_of (get_or f start 0) → 1 ≤ n
      extend_some e = rw e (clause_some x.openable.clause)

      module _ {n : ℕ} (en : n ≡ literals_of (get_or f start 0)) where
        counted : n - 1 ≡ length (hanging_at f start offset)
        counted = omega (arith, en, fewer)

        pub extend_under :
            ((length m₂ ≡ work_words) × (copy < most_copies) × (0 < place.head) × (place.head ≤ place.leaves) × (place.leaves < most_leaves) × (place.leaves + (n - 1) ≤ most_leaves) × (place.steps < most_leaves)) × (n - 1 ≡ length (hanging_at f start offset))
        extend_under = (under_inside x.openable offset few (met_one_more met_as) eo.0 counted, counted)

      pub extend_went_on : q ≡ Ok tt → {m₃ : List ℕ} {r : Place} → (r ≡ place_under f m₂ place start offset) × (m₃ ≡ hung_under f m₂ place start copy offset)
          → Extended f m m₃ place start offset step (Ok r)
      extend_went_on is e = rw (e.0, e.1, eo.0) (went_on met_as is)
