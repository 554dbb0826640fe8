-- What is looked for in the lent buffers, one law for each outcome, with premises as the code has them.
use mathlib.Core.Path.{◌≡◌, refl, sym, ap, ◌∙◌}
use Rattle.std.specs.List.{list_all}
use mathlib.Core.Bool.{Bool, true, false, ◌&&◌}
use mathlib.Core.List.{List, [], ◌∷◌}
use Prim.Native.Nat.{ℕ, zero, suc, ◌+◌, ◌≤◌, ◌<◌}
use native.Mathlib.Omega.{arith}
use lib.Dec.{eqb}
use lib.ListN.{length, take, drop, get_or, drop_of_length-le}
use borrow.Author.Tests.{eq-eqb, ne_eqb, le-ltb}
use Rattle.text.proofs.Written.{from_place}
use Rattle.results.specs.Buffers.{all_are, work_kept, written}

-- all words the same
pub all_is : (value : ℕ) (ws : List ℕ) → list_all (λ w. eqb w value) ws ≡ all_are value ws
unfolding all_are
all_is value [] = refl
all_is value (w ∷ ws) = ap (λ (b : Bool). eqb w value && b) (all_is value ws)

-- the work words by the status
module _ (status : ℕ) (work : List ℕ) (n : status ≡ 1 → ⊥) (h : 16384 ≤ length work) {front back : List ℕ} (ef : front ≡ take 16384 work) (eb : back ≡ drop 16384 work)
    {a : Bool} (ea : a ≡ list_all (λ w. eqb w 0) front) where
  parts : work_kept status work ≡ (a && all_are 0xA5A5A5A5 back)
  unfolding work_kept
  parts = rw (ne_eqb status 1 n, le-ltb (length work) 16384 h, ← ef, ← eb, ← all_is 0 front, ← ea)

  pub front_not : a ≡ false → a ≡ work_kept status work
  front_not f = f ∙ sym (parts ∙ rw f)

  pub back_left : a ≡ true → {r : Bool} → r ≡ all_are 0xA5A5A5A5 back → r ≡ work_kept status work
  back_left t er = er ∙ sym (parts ∙ rw t)

-- how many words were written
untouched_none : (ws : List ℕ) → all_are 0xA5A5A5A5 ws ≡ true → written ws ≡ 0
unfolding written
untouched_none [] e = refl
untouched_none (w ∷ ws) e = rw e

touched : (ws : List ℕ) (n : ℕ) → n < length ws → (get_or ws n 0 ≡ 0xA5A5A5A5 → ⊥) → all_are 0xA5A5A5A5 ws ≡ false
unfolding all_are
touched [] n h d = absurd (omega arith)
touched (w ∷ ws) zero h d = rw (ne_eqb w 0xA5A5A5A5 d)
touched (w ∷ ws) (suc n) h d = rw (touched ws n (omega arith) d) (no_both (eqb w 0xA5A5A5A5))
  where
    no_both : (b : Bool) → (b && false) ≡ false
    no_both true = refl
    no_both false = refl

written_to : (ws : List ℕ) (n : ℕ) → n < length ws → (get_or ws n 0 ≡ 0xA5A5A5A5 → ⊥) → all_are 0xA5A5A5A5 (drop (suc n) ws) ≡ true → written ws ≡ suc n
unfolding written
written_to [] n h d e = absurd (omega arith)
written_to (w ∷ ws) zero h d e = rw (touched (w ∷ ws) 0 h d, untouched_none ws e)
written_to (w ∷ ws) (suc n) h d e = rw (touched (w ∷ ws) (suc n) h d, written_to ws n (omega arith) d e) (omega arith)

pub written_begin : (ws : List ℕ) → all_are 0xA5A5A5A5 (drop (length ws) ws) ≡ true
unfolding all_are
written_begin ws = let l : length ws ≤ length ws = omega arith in rw (drop_of_length-le ws l)

pub written_none : (ws : List ℕ) → all_are 0xA5A5A5A5 (drop 0 ws) ≡ true → 0 ≡ written ws
written_none ws s = sym (untouched_none ws s)

module _ (ws : List ℕ) (i : ℕ) (h : i < length ws) (s : all_are 0xA5A5A5A5 (drop (i + 1) ws) ≡ true) where
  pub written_here : (get_or ws i 0 ≡ 0xA5A5A5A5 → ⊥) → i + 1 ≡ written ws
  written_here d = let z : i + 1 ≡ suc i = omega arith in z ∙ sym (written_to ws i h d (rw z at s))

  pub written_less : get_or ws i 0 ≡ 0xA5A5A5A5 → all_are 0xA5A5A5A5 (drop i ws) ≡ true
  unfolding all_are
  written_less e = rw (from_place ws i h, eq-eqb (get_or ws i 0) 0xA5A5A5A5 e) s
