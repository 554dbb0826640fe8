-- Words that begin lower-case or upper-case, with premises as the code has them.
use mathlib.Core.Bool.{false}
use mathlib.Core.List.{List, [], ◌∷◌}
use mathlib.Core.Path.{◌≡◌, ap, ◌∙◌}
use Prim.Native.Nat.{ℕ, ◌+◌, ◌≤◌, ◌<◌}
use native.Mathlib.Omega.{arith}
use borrow.Author.Tests.{eq-eqb, ne_eqb, le-leb, lt-leb}
use lib.ListN.{length, set, length-set}
use lib.Seq.{get_or-set_same}
use Rattle.names.specs.Noting.{name_at}
use Rattle.tptp.specs.declared.sketch.Progress.{Progress}
use Rattle.tptp.specs.Sketch.{role_sort, on_word, on_capital}
use Rattle.tptp.specs.Memory.{inner_of, Small, Ready, Further, adding, beginning, word_met, capital_met, NameSort}
use Rattle.tptp.proofs.Adding.{items_count, item_added, small_set}

small_more : {marks : List ℕ} {count : ℕ} → Small marks count → Small marks (count + 1)
small_more s = record { each = λ k. omega (arith, s.each k) }

lone_inner : (inner : List ℕ) (x : ℕ) → 0 < length inner → inner_of (set inner 0 x) 1 ≡ x ∷ []
unfolding inner_of
lone_inner inner x h = ap (λ (n : ℕ). n ∷ []) (get_or-set_same inner 0 x 0 h)

module _ (text : List ℕ) {marks places inner : List ℕ} {p : Progress} (ready : Ready marks places inner p) (start : ℕ) where
  pub clause_begun : {at sort : ℕ} → at ≡ start → (sort < 8) × (sort ≡ role_sort (name_at text at))
      → Further text (beginning (name_at text start)) marks places inner p (set marks p.count sort) (set places p.count start) (set inner 0 p.count)
      (record { count = p.count + 1; depth = 1; stage = 5; negative = false })
  clause_begun {at} {sort} w s = record {
    marks_long = length-set marks p.count sort ∙ ready.marks_long;
    places_long = length-set places p.count start ∙ ready.places_long;
    inner_long = length-set inner 0 p.count ∙ ready.inner_long;
    small = small_set marks p.count sort (omega (arith, ready.few, ready.marks_long)) s.0 (small_more ready.small);
    few = omega arith;
    deep = omega arith;
    same = rw (
      item_added text marks places p.count ready.marks_long ready.places_long ready.few sort start s.0,
      items_count text marks places p.count ready.marks_long ready.places_long ready.few,
      lone_inner inner p.count (omega (arith, ready.inner_long)),
      s.1,
      w,
    );
  }

  -- a word of a formula is an item
  pub word_added : 6 ≤ p.stage → {sort : ℕ} → NameSort p.depth p.negative sort → {marks' places' inner' : List ℕ} {r : Progress}
      → ((text : List ℕ) → Further text (adding sort (name_at text start)) marks places inner p marks' places' inner' r)
      → Further text (word_met (name_at text start)) marks places inner p marks' places' inner' r
  unfolding on_word
  word_added h {sort} n f = let g : Further text (adding sort (name_at text start)) marks places inner p _ _ _ _ = f text in record {
    marks_long = g.marks_long;
    places_long = g.places_long;
    inner_long = g.inner_long;
    small = g.small;
    few = g.few;
    deep = g.deep;
    same = rw (le-leb 6 p.stage h, ← n.is inner) g.same;
  }

  pub word_begins : p.stage < 6 → p.stage ≡ 4 → {marks' places' inner' : List ℕ} {r : Progress}
      → Further text (beginning (name_at text start)) marks places inner p marks' places' inner' r
      → Further text (word_met (name_at text start)) marks places inner p marks' places' inner' r
  unfolding on_word
  word_begins h e g = record {
    marks_long = g.marks_long;
    places_long = g.places_long;
    inner_long = g.inner_long;
    small = g.small;
    few = g.few;
    deep = g.deep;
    same = rw (lt-leb 6 p.stage h, eq-eqb p.stage 4 e) g.same;
  }

  module _ (h : p.stage < 6) {r : Progress} (e : r ≡ record { count = p.count; depth = p.depth; stage = p.stage + 1; negative = p.negative }) where
    pub word_passed : (p.stage ≡ 4 → ⊥) → Further text (word_met (name_at text start)) marks places inner p marks places inner r
    unfolding on_word
    word_passed d = rw e (record {
      marks_long = ready.marks_long;
      places_long = ready.places_long;
      inner_long = ready.inner_long;
      small = ready.small;
      few = omega arith;
      deep = omega arith;
      same = rw (lt-leb 6 p.stage h, ne_eqb p.stage 4 d);
    })

    pub capital_passes : Further text (capital_met (name_at text start)) marks places inner p marks places inner r
    unfolding on_capital
    capital_passes = rw e (record {
      marks_long = ready.marks_long;
      places_long = ready.places_long;
      inner_long = ready.inner_long;
      small = ready.small;
      few = omega arith;
      deep = omega arith;
      same = rw (lt-leb 6 p.stage h);
    })

  capital-adds : 6 ≤ p.stage → {marks' places' inner' : List ℕ} {r : Progress}
      → Further text (adding 0 (name_at text start)) marks places inner p marks' places' inner' r
      → Further text (capital_met (name_at text start)) marks places inner p marks' places' inner' r
  unfolding on_capital
  capital-adds h g = record {
    marks_long = g.marks_long;
    places_long = g.places_long;
    inner_long = g.inner_long;
    small = g.small;
    few = g.few;
    deep = g.deep;
    same = rw (le-leb 6 p.stage h) g.same;
  }

module _ {marks places inner : List ℕ} {p : Progress} (ready : Ready marks places inner p) (start : ℕ) where
  pub capital_added : 6 ≤ p.stage → {marks' places' inner' : List ℕ} {r : Progress}
      → ((text : List ℕ) → Further text (adding 0 (name_at text start)) marks places inner p marks' places' inner' r)
      → (text : List ℕ) → Further text (capital_met (name_at text start)) marks places inner p marks' places' inner' r
  capital_added h f text = capital-adds text ready start h (f text)

  pub capital_passed : p.stage < 6 → {r : Progress} → r ≡ record { count = p.count; depth = p.depth; stage = p.stage + 1; negative = p.negative }
      → (text : List ℕ) → Further text (capital_met (name_at text start)) marks places inner p marks places inner r
  capital_passed h e text = capital_passes text ready start h e

pub ruleset word_laws = (word_added, word_begins, word_passed)

pub ruleset capital_laws = (capital_added, capital_passed)
