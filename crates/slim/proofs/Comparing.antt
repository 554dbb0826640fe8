-- Two lists of words compared word by word, one law for each outcome, with premises as the code has them.
use lib.ListN.{length, drop, get_or, drop_of_length-le}
use lib.Seq.{drop-cons}
use mathlib.Core.Bool.{Bool, true, false, ◌&&◌}
use mathlib.Core.List.{List, [], ◌∷◌}
use mathlib.Core.Path.{◌≡◌, refl, sym, ap, ◌∙◌}
use native.Mathlib.Numerals.{add-one}
use native.Mathlib.Omega.{arith}
use borrow.Author.Tests.{eq-eqb, ne_eqb, eqb-true}
use lib.Dec.{eqb}
use Prim.Native.Nat.{ℕ, suc, ◌+◌, ◌≤◌, ◌<◌}
use Rattle.table.proofs.Bools.{and_left, and_right}
use Rattle.slim.specs.Dropping.{same_words}

pub record Comparing (left right : List ℕ) (i : ℕ) : Type 0 where
  pub within : i ≤ length left
  pub long : length left ≡ length right
  pub left_over : same_words left right ≡ same_words (drop i left) (drop i right)

and_false : (b : Bool) → (b && false) ≡ false
and_false true = refl
and_false false = refl

differ : (vs ws : List ℕ) → (length vs ≡ length ws → ⊥) → same_words vs ws ≡ false
unfolding same_words
differ [] [] n = absurd (n refl)
differ [] (w ∷ ws) n = refl
differ (v ∷ vs) [] n = refl
differ (v ∷ vs) (w ∷ ws) n = rw (differ vs ws (λ e. n (ap suc e))) (and_false (eqb v w))

module _ (left right : List ℕ) where
  pub lengths_differ : (length left ≡ length right → ⊥) → false ≡ same_words left right
  lengths_differ n = sym (differ left right n)

  pub compare_begin : length left ≡ length right → Comparing left right 0
  compare_begin e = record { within = omega arith; long = e; left_over = refl }

  module _ (i : ℕ) (g : Comparing left right i) where
    pub compare_in : i < length left → i < length right
    compare_in h = omega (arith, g.long)

    one_word : i < length left → same_words left right ≡ (eqb (get_or left i 0) (get_or right i 0) && same_words (drop (suc i) left) (drop (suc i) right))
    unfolding same_words
    one_word h =
        let k : i < length right = compare_in h in
        g.left_over ∙ rw (drop-cons left i 0, drop-cons right i 0)

    pub words_differ : i < length left → (get_or left i 0 ≡ get_or right i 0 → ⊥) → false ≡ same_words left right
    words_differ h n = rw (one_word h, ne_eqb (get_or left i 0) (get_or right i 0) n)

    pub compare_next : i < length left → get_or left i 0 ≡ get_or right i 0 → Comparing left right (i + 1)
    compare_next h e =
        record {
          within = omega arith;
          long = g.long;
          left_over = rw (one_word h, eq-eqb (get_or left i 0) (get_or right i 0) e, add-one);
        }

    pub compare_done : length left ≤ i → true ≡ same_words left right
    unfolding same_words
    compare_done h =
        let k : length right ≤ i = omega (arith, g.long) in
        rw (g.left_over, drop_of_length-le left h, drop_of_length-le right k)

-- what the comparison says
pub same_true : (vs ws : List ℕ) → same_words vs ws ≡ true → vs ≡ ws
unfolding same_words
same_true [] [] e = refl
same_true [] (w ∷ ws) e = cc
same_true (v ∷ vs) [] e = cc
same_true (v ∷ vs) (w ∷ ws) e =
    let p = eqb-true v w (and_left (eqb v w) (same_words vs ws) e) in
    let q = same_true vs ws (and_right (eqb v w) (same_words vs ws) e) in
    cc

pub same_self : (vs : List ℕ) → same_words vs vs ≡ true
unfolding same_words
same_self [] = refl
same_self (v ∷ vs) = rw (eq-eqb v v refl, same_self vs)
