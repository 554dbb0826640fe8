-- The kinds of literals among words marked, and a literal's word looked for whose opposite is not, one law for each outcome.
use lib.Dec.{eqb}
use lib.ListN.{length, take, drop, get_or, set, length-set, drop_of_length-le}
use lib.Seq.{drop-cons, take-length, get_or-set_same, get_or-set_other}
use mathlib.Core.Bool.{Bool, true, false, not, ◌||◌}
use mathlib.Core.List.{List}
use mathlib.Core.Path.{◌≡◌, refl, sym, ◌∙◌}
use native.Mathlib.Numerals.{add-one}
use native.Mathlib.Omega.{arith}
use borrow.Author.Tests.{eq-eqb, ne_eqb, eqb-true, eqb-false, not-true, not-false}
use Prim.Native.Nat.{ℕ, suc, ◌+◌, ◌≤◌, ◌<◌}
use Rattle.words.specs.Fields.{kind_of}
use Rattle.slim.specs.Dropping.{some_of}
use Rattle.slim.specs.Walking.{kind_index, opposite_index, marking, Marked, lonely}
use Rattle.slim.proofs.Flags.{or_false, some_next}

-- so many of the words have been looked at
pub record Looking (words : List ℕ) (before : List Bool) (i : ℕ) (marks : List Bool) : Type 0 where
  pub within : i ≤ length words
  pub marked : Marked (take i words) before marks

or_true : (b : Bool) → (b || true) ≡ true
or_true true = refl
or_true false = refl

module _ (words : List ℕ) (before : List Bool) where
  pub look_begin : length before ≡ 65536 → Looking words before 0 before
  unfolding some_of
  look_begin e = record { within = omega arith; marked = record { long = e; marks = λ k h. sym (or_false (get_or before k false)) } }

  module _ (i : ℕ) (marks : List Bool) (g : Looking words before i marks) where
    one_more : (k : ℕ) → i < length words → some_of (marking k) (take (i + 1) words) ≡ (some_of (marking k) (take i words) || marking k (get_or words i 0))
    one_more k h = some_next (marking k) words i 0 h

    pub look_past : i < length words → {w : ℕ} → w ≡ kind_of (get_or words i 0) → (w ≡ 2 → ⊥) → Looking words before (i + 1) marks
    look_past h {w} e n =
        record {
          within = omega arith;
          marked = record {
            long = g.marked.long;
            marks = λ k b. g.marked.marks k b ∙ rw (one_more k h, ne_eqb (kind_of (get_or words i 0)) 2 (λ z. n (e ∙ z)), or_false (some_of (marking k) (take i words)));
          };
        }

    pub look_in : {x : ℕ} → x ≡ kind_index (get_or words i 0) → x < length marks
    look_in e = omega (arith, g.marked.long)

    marked_more : (x k : ℕ) → k < 65536 → i < length words → x ≡ kind_index (get_or words i 0) → kind_of (get_or words i 0) ≡ 2 → (same : Bool) → eqb x k ≡ same
        → get_or (set marks x true) k false ≡ (get_or before k false || some_of (marking k) (take (i + 1) words))
    marked_more x k b h e z true q =
        let p = eqb-true x k q in
        rw (← p, get_or-set_same marks x true false (look_in e), one_more x h, eq-eqb (kind_of (get_or words i 0)) 2 z, eq-eqb (kind_index (get_or words i 0)) x (sym e), or_true (some_of (marking x) (take i words)))
        (sym (or_true (get_or before x false)))
    marked_more x k b h e z false q =
        let n : x ≡ k → ⊥ = eqb-false x k q in
        let other : eqb (kind_index (get_or words i 0)) k ≡ false = ne_eqb (kind_index (get_or words i 0)) k (λ q. n (e ∙ q)) in
        rw (get_or-set_other marks x k true false (λ q. n (sym q)), one_more k h, eq-eqb (kind_of (get_or words i 0)) 2 z, other, or_false (some_of (marking k) (take i words)))
        (g.marked.marks k b)

    pub look_marks : i < length words → {w x : ℕ} → w ≡ kind_of (get_or words i 0) → w ≡ 2 → x ≡ kind_index (get_or words i 0) → Looking words before (i + 1) (set marks x true)
    look_marks h {w} {x} e z f =
        record {
          within = omega arith;
          marked = record {
            long = length-set marks x true ∙ g.marked.long;
            marks = λ k b. marked_more x k b h f (sym e ∙ z) (eqb x k) refl;
          };
        }

    pub look_done : length words ≤ i → Marked words before marks
    look_done h =
        let z : i ≡ length words = omega (arith, g.within) in
        let m = g.marked in
        rw (z, take-length) at m

pub ruleset look_laws = (look_begin, look_past, look_in, look_marks, look_done)

-- a lonely literal
pub record Seeking (marks : List Bool) (words : List ℕ) (i : ℕ) : Type 0 where
  pub within : i ≤ length words
  pub left : some_of (lonely marks) words ≡ some_of (lonely marks) (drop i words)

module _ (marks : List Bool) (words : List ℕ) where
  pub seek_begin : Seeking marks words 0
  seek_begin = record { within = omega arith; left = refl }

  module _ (i : ℕ) (g : Seeking marks words i) where
    this-word : i < length words → some_of (lonely marks) words ≡ (lonely marks (get_or words i 0) || some_of (lonely marks) (drop (suc i) words))
    unfolding some_of
    this-word h = g.left ∙ rw (drop-cons words i 0)

    pub seek_past : i < length words → {w : ℕ} → w ≡ kind_of (get_or words i 0) → (w ≡ 2 → ⊥) → Seeking marks words (i + 1)
    seek_past h {w} e n =
        record { within = omega arith; left = rw (this-word h, ne_eqb (kind_of (get_or words i 0)) 2 (λ z. n (e ∙ z)), add-one) }

    pub seek_in : length marks ≡ 65536 → {x : ℕ} → x ≡ opposite_index (get_or words i 0) → x < length marks
    seek_in l e = omega arith

    pub seek_next : i < length words → {w x : ℕ} → w ≡ kind_of (get_or words i 0) → w ≡ 2 → x ≡ opposite_index (get_or words i 0) → not (get_or marks x false) ≡ false → Seeking marks words (i + 1)
    seek_next h {w} {x} e z f m =
        let seen : get_or marks (opposite_index (get_or words i 0)) false ≡ true = rw f at (not-false (get_or marks x false) m) in
        record { within = omega arith; left = rw (this-word h, eq-eqb (kind_of (get_or words i 0)) 2 (sym e ∙ z), seen, add-one) }

    pub seek_found : i < length words → {w x : ℕ} → w ≡ kind_of (get_or words i 0) → w ≡ 2 → x ≡ opposite_index (get_or words i 0) → not (get_or marks x false) ≡ true → true ≡ some_of (lonely marks) words
    seek_found h {w} {x} e z f m =
        let seen : get_or marks (opposite_index (get_or words i 0)) false ≡ false = rw f at (not-true (get_or marks x false) m) in
        rw (this-word h, eq-eqb (kind_of (get_or words i 0)) 2 (sym e ∙ z), seen)

    pub seek_done : length words ≤ i → false ≡ some_of (lonely marks) words
    unfolding some_of
    seek_done h = rw (g.left, drop_of_length-le words h)

pub ruleset seek_laws = (seek_begin, seek_past, seek_in, seek_next, seek_found, seek_done)
