-- A number is read back from its decimal text, so different numbers have different texts; and that text is digits.
use borrow.Author.Tests.{eqb-true, eqb-false, eq-eqb, lt-ltb}
use mathlib.Core.Bool.{Bool, true, false, cond}
use mathlib.Core.List.{List, [], ◌∷◌}
use mathlib.Core.Path.{◌≡◌, refl, sym, ap, ◌∙◌}
use Prim.Native.Nat.{ℕ, zero, suc, ◌+◌, ◌-◌, ◌*◌, ◌/◌, ◌%◌, ◌^◌, ◌<◌}
use native.Mathlib.Omega.{arith}
use native.Mathlib.Nat.{pow-succ', mod-lt, mod-eq_of_lt, mod-one, add-mul, mul_assoc, add_assoc, one-le-pow, pow-zero}
use lib.Arith.{mod-mul}
use lib.Dec.{eqb}
use Rattle.text.specs.Digits.{glyph_of, digits_of, significant, decimal_text}
use Rattle.names.specs.Numbers.{same_name}
use Rattle.names.proofs.Notes.{same_is, same_self}
use Rattle.clausetext.specs.Kinds.{kind_of, sign_kind, letter_kind, goes_on}
use Rattle.rules.proofs.Every.{All, end, ◌also◌, all_rest}

-- the number whose digits these are, after digits that make a number already
unfoldable value_after : ℕ → List ℕ → ℕ
value_after n [] = n
value_after n (d ∷ ds) = value_after (n * 10 + (d - 48)) ds

value_significant : (ds : List ℕ) → value_after 0 (significant ds) ≡ value_after 0 ds
unfolding value_after significant
value_significant [] = refl
value_significant (d ∷ []) = refl
value_significant (d ∷ e ∷ ds) = go (eqb d 48) refl (value_significant (e ∷ ds))
  where
    go : (b : Bool) → eqb d 48 ≡ b → value_after 0 (significant (e ∷ ds)) ≡ value_after 0 (e ∷ ds)
        → value_after 0 (cond b (significant (e ∷ ds)) (d ∷ e ∷ ds)) ≡ value_after (0 * 10 + (d - 48)) (e ∷ ds)
    go true f same = rw (eqb-true d 48 f) same
    go false f same = refl

glyph_of_digit : (d : ℕ) → d < 10 → glyph_of d ≡ 48 + d
glyph_of_digit d h = rw (lt-ltb d 10 h)

shifted : (m d p r : ℕ) → (m * 10 + d) * p + r ≡ m * (10 * p) + (d * p + r)
shifted m d p r = rw (add-mul (m * 10) d p, mul_assoc m 10 p) (add_assoc (m * (10 * p)) (d * p) r)

value_digits : (count n m : ℕ) → value_after m (digits_of 10 count n) ≡ m * 10 ^ count + n % 10 ^ count
unfolding value_after digits_of
value_digits zero n m = rw (pow-zero 10, mod-one n) (omega arith)
value_digits (suc k) n m =
    let below : n / 10 ^ k % 10 < 10 = mod-lt (n / 10 ^ k) (omega arith) in
    let glyph : glyph_of (n / 10 ^ k % 10) - 48 ≡ n / 10 ^ k % 10 = omega (arith, glyph_of_digit (n / 10 ^ k % 10) below) in
    let split : n % (10 * 10 ^ k) ≡ n / 10 ^ k % 10 * 10 ^ k + n % 10 ^ k = mod-mul n (omega arith) (one-le-pow k 10 (omega arith)) in
    rw (pow-succ' 10 k, split)
    (ap (λ (d : ℕ). value_after (m * 10 + d) (digits_of 10 k n)) glyph
    ∙ value_digits k n (m * 10 + n / 10 ^ k % 10)
    ∙ shifted m (n / 10 ^ k % 10) (10 ^ k) (n % 10 ^ k))

value : (n : ℕ) → n < 10 ^ 10 → value_after 0 (decimal_text n) ≡ n
value n h = value_significant (digits_of 10 10 n) ∙ value_digits 10 n 0 ∙ (let same : n % 10 ^ 10 ≡ n = mod-eq_of_lt h in omega arith)

-- different numbers have different texts
pub one_decimal : (m n : ℕ) → m < 10 ^ 10 → n < 10 ^ 10 → decimal_text m ≡ decimal_text n → m ≡ n
one_decimal m n h k e = sym (value m h) ∙ ap (value_after 0) e ∙ value n k

-- names made of a letter and a number are kept apart as the numbers are
pub apart : (letter m n : ℕ) → m < 10 ^ 10 → n < 10 ^ 10 → same_name (letter ∷ decimal_text m) (letter ∷ decimal_text n) ≡ eqb m n
unfolding same_name
apart letter m n h k = rw (eq-eqb letter letter refl) (go (eqb m n) refl)
  where
    go : (b : Bool) → eqb m n ≡ b → same_name (decimal_text m) (decimal_text n) ≡ b
    go true e = rw (eqb-true m n e) (same_self (decimal_text n))
    go false e = other (same_name (decimal_text m) (decimal_text n)) refl
      where
        other : (t : Bool) → same_name (decimal_text m) (decimal_text n) ≡ t → t ≡ false
        other true f = absurd (eqb-false m n e (one_decimal m n h k (same_is (decimal_text m) (decimal_text n) f)))
        other false f = refl

-- every byte of a decimal text is a digit, which goes on a name
abbrev pub GoesOn : ℕ → Type 0
GoesOn c = goes_on (kind_of c) ≡ true

digit_goes_on : (d : ℕ) → d < 10 → GoesOn (48 + d)
unfolding kind_of sign_kind letter_kind
digit_goes_on zero h = refl
digit_goes_on (suc zero) h = refl
digit_goes_on (suc (suc zero)) h = refl
digit_goes_on (suc (suc (suc zero))) h = refl
digit_goes_on (suc (suc (suc (suc zero)))) h = refl
digit_goes_on (suc (suc (suc (suc (suc zero))))) h = refl
digit_goes_on (suc (suc (suc (suc (suc (suc zero)))))) h = refl
digit_goes_on (suc (suc (suc (suc (suc (suc (suc zero))))))) h = refl
digit_goes_on (suc (suc (suc (suc (suc (suc (suc (suc zero)))))))) h = refl
digit_goes_on (suc (suc (suc (suc (suc (suc (suc (suc (suc zero))))))))) h = refl
digit_goes_on (suc (suc (suc (suc (suc (suc (suc (suc (suc (suc d)))))))))) h = absurd (omega arith)

digits_go_on : (count n : ℕ) → All GoesOn (digits_of 10 count n)
unfolding digits_of
digits_go_on zero n = end
digits_go_on (suc k) n =
    let below : n / 10 ^ k % 10 < 10 = mod-lt (n / 10 ^ k) (omega arith) in
    let goes : GoesOn (glyph_of (n / 10 ^ k % 10)) = rw (glyph_of_digit (n / 10 ^ k % 10) below) (digit_goes_on (n / 10 ^ k % 10) below) in
    goes also digits_go_on k n

significant_go_on : (ds : List ℕ) → All GoesOn ds → All GoesOn (significant ds)
unfolding significant
significant_go_on [] a = end
significant_go_on (d ∷ []) a = a
significant_go_on (d ∷ e ∷ ds) a = go (eqb d 48) (significant_go_on (e ∷ ds) (all_rest a))
  where
    go : (b : Bool) → All GoesOn (significant (e ∷ ds)) → All GoesOn (cond b (significant (e ∷ ds)) (d ∷ e ∷ ds))
    go true rest = rest
    go false rest = a

pub decimal_goes_on : (n : ℕ) → All GoesOn (decimal_text n)
decimal_goes_on n = significant_go_on (digits_of 10 10 n) (digits_go_on 10 n)
