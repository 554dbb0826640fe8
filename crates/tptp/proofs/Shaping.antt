-- The words of the items before their names are numbered, with premises as the code has them.
use mathlib.Core.Bool.{Bool, true, false, ◌&&◌}
use mathlib.Core.List.{List, [], ◌∷◌, ◌++◌}
use mathlib.Core.Path.{◌≡◌, refl, sym, ap, ◌∙◌}
use Prim.Native.Nat.{ℕ, zero, suc, ◌+◌, ◌/◌, ◌%◌, ◌^◌, ◌≤◌, ◌<◌}
use native.Mathlib.Numerals.{add-one}
use native.Mathlib.Omega.{arith}
use borrow.Author.Tests.{leb-true, leb-false, not-true, not-false}
use lib.Dec.{leb}
use lib.ListN.{length, take, drop, get_or, set, length-set, drop_of_length-le}
use lib.Seq.{drop-cons, take-suc, take-suc-set, take_all}
use Rattle.words.specs.Fields.{variable_word, function_word, literal_word, clause_word}
use Rattle.tptp.specs.Shapes.{shape_by, fits_by, shape_of, fits_of, shapes, all_fit, Shaped}

-- the limit by sort
low_fits : (sort parts : ℕ) → sort < 4 → leb parts 4 ≡ fits_by sort parts
unfolding fits_by
low_fits zero parts h = refl
low_fits (suc zero) parts h = refl
low_fits (suc (suc zero)) parts h = refl
low_fits (suc (suc (suc zero))) parts h = refl
low_fits (suc (suc (suc (suc n)))) parts h = absurd (omega arith)

high_fits : (sort parts : ℕ) → 4 ≤ sort → leb parts 7 ≡ fits_by sort parts
unfolding fits_by
high_fits zero parts h = absurd (omega arith)
high_fits (suc zero) parts h = absurd (omega arith)
high_fits (suc (suc zero)) parts h = absurd (omega arith)
high_fits (suc (suc (suc zero))) parts h = absurd (omega arith)
high_fits (suc (suc (suc (suc n)))) parts h = refl

module _ (mark : ℕ) where
  pub fits_low : mark % 8 < 4 → leb (mark / 8) 4 ≡ fits_of mark
  fits_low h = low_fits (mark % 8) (mark / 8) h

  pub fits_high : 4 ≤ mark % 8 → leb (mark / 8) 7 ≡ fits_of mark
  fits_high h = high_fits (mark % 8) (mark / 8) h

pub ruleset fits_laws = (fits_low, fits_high)

-- what fits has at most 7 parts
pub few_parts : (sort parts : ℕ) → fits_by sort parts ≡ true → parts ≤ 7
unfolding fits_by
few_parts zero parts e = omega (arith, leb-true parts 4 e)
few_parts (suc zero) parts e = omega (arith, leb-true parts 4 e)
few_parts (suc (suc zero)) parts e = omega (arith, leb-true parts 4 e)
few_parts (suc (suc (suc zero))) parts e = omega (arith, leb-true parts 4 e)
few_parts (suc (suc (suc (suc n)))) parts e = leb-true parts 7 e

clause_shape : (sort parts : ℕ) → (sort ≡ 0 → ⊥) → (sort ≡ 1 → ⊥) → (sort ≡ 2 → ⊥) → (sort ≡ 3 → ⊥) → clause_word false parts 0 0 ≡ shape_by sort parts
unfolding shape_by
clause_shape zero parts a b c d = absurd (a refl)
clause_shape (suc zero) parts a b c d = absurd (b refl)
clause_shape (suc (suc zero)) parts a b c d = absurd (c refl)
clause_shape (suc (suc (suc zero))) parts a b c d = absurd (d refl)
clause_shape (suc (suc (suc (suc n)))) parts a b c d = refl

module _ (mark : ℕ) (f : fits_of mark ≡ true) where
  kept : mark / 8 % 2 ^ 3 ≡ mark / 8
  kept = omega (arith, few_parts (mark % 8) (mark / 8) f)

  pub variable_shape : {r : ℕ} → mark % 8 ≡ 0 → r ≡ variable_word (0 % 2 ^ 10) → r ≡ shape_of mark
  unfolding shape_by
  variable_shape e q = rw e q

  pub function_shape : {r : ℕ} → mark % 8 ≡ 1 → r ≡ function_word (0 % 2 ^ 12) (mark / 8 % 2 ^ 3) → r ≡ shape_of mark
  unfolding shape_by
  function_shape e q = q ∙ rw (e, kept)

  pub negative_shape : {r : ℕ} → mark % 8 ≡ 2 → r ≡ literal_word true (0 % 2 ^ 12) (mark / 8 % 2 ^ 3) → r ≡ shape_of mark
  unfolding shape_by
  negative_shape e q = q ∙ rw (e, kept)

  pub positive_shape : {r : ℕ} → mark % 8 ≡ 3 → r ≡ literal_word false (0 % 2 ^ 12) (mark / 8 % 2 ^ 3) → r ≡ shape_of mark
  unfolding shape_by
  positive_shape e q = q ∙ rw (e, kept)

  pub other_shape : {r : ℕ} → (mark % 8 ≡ 0 → ⊥) → (mark % 8 ≡ 1 → ⊥) → (mark % 8 ≡ 2 → ⊥) → (mark % 8 ≡ 3 → ⊥)
      → r ≡ clause_word false (mark / 8 % 2 ^ 3) (0 % 2 ^ 5) (0 % 2 ^ 8) → r ≡ shape_of mark
  other_shape a b c d q = q ∙ rw kept (clause_shape (mark % 8) (mark / 8) a b c d)

pub ruleset shape_laws = (variable_shape, function_shape, positive_shape, negative_shape, other_shape)

-- the words written so far, and what is left to judge
pub record Shaping (marks words words' : List ℕ) (i : ℕ) : Type 0 where
  pub front : take i words' ≡ shapes (take i marks)
  pub left : all_fit marks ≡ all_fit (drop i marks)
  pub long : length words' ≡ length words

shapes_snoc : (ms : List ℕ) (m : ℕ) → shapes (ms ++ (m ∷ [])) ≡ shapes ms ++ (shape_of m ∷ [])
unfolding shapes
shapes_snoc [] m = refl
shapes_snoc (x ∷ ms) m = ap (λ (l : List ℕ). shape_of x ∷ l) (shapes_snoc ms m)

module _ {marks words : List ℕ} where
  pub begin_shaping : Shaping marks words words 0
  unfolding shapes
  begin_shaping = record { front = refl; left = refl; long = refl }

  module _ (even : length marks ≡ length words) {words' : List ℕ} {i : ℕ} (inv : Shaping marks words words' i) where
    module _ (h : i < length marks) {fit : Bool} (q : fit ≡ fits_of (get_or marks i 0)) where
      left_here : all_fit marks ≡ (fits_of (get_or marks i 0) && all_fit (drop (suc i) marks))
      unfolding all_fit
      left_here = inv.left ∙ rw (drop-cons marks i 0 h)

      pub shaping_over : fit ≡ false → Shaped marks words words' false
      shaping_over e = record { is = sym (left_here ∙ rw (← q, e)); written = λ z. let y : ◌≡◌ {A = ℕ} 0 1 = cc in absurd (omega arith); long = inv.long }

      pub shaping_fits : fit ≡ true → fits_of (get_or marks i 0) ≡ true
      shaping_fits e = sym q ∙ e

      shaping-next : fit ≡ true → Shaping marks words (set words' i (shape_of (get_or marks i 0))) (suc i)
      shaping-next e = record {
        front = rw (take-suc-set words' i (shape_of (get_or marks i 0)) (omega (arith, inv.long)), take-suc marks i 0 h, inv.front)
            (sym (shapes_snoc (take i marks) (get_or marks i 0)));
        left = left_here ∙ rw (← q, e);
        long = length-set words' i (shape_of (get_or marks i 0)) ∙ inv.long;
      }

      pub shaping_on : fit ≡ true → {w : ℕ} → w ≡ shape_of (get_or marks i 0) → Shaping marks words (set words' i w) (i + 1)
      shaping_on e v = rw (add-one i, v) (shaping-next e)

    pub shaping_end : length marks ≤ i → Shaped marks words words' true
    unfolding all_fit
    shaping_end h = record {
      is = sym (inv.left ∙ rw (drop_of_length-le marks h));
      written = λ z. sym (take_all i words' (omega (arith, inv.long))) ∙ inv.front ∙ rw (take_all i marks h);
      long = inv.long;
    }

pub ruleset shaping_laws = (begin_shaping, shaping_over, shaping_fits, shaping_on, shaping_end, not-true, not-false)
