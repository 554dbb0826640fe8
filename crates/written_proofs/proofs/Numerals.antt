-- Numbers and words written and read again.
use mathlib.Core.Bool.{Bool, true, false, cond, ◌&&◌}
use mathlib.Core.List.{List, [], ◌∷◌}
use Rattle.std.specs.Prelude.{Option, Some, None}
use Rattle.std.specs.Option.{option_eq}
use mathlib.Core.Path.{◌≡◌, refl, sym, ap, ◌∙◌}
use Prim.Native.Nat.{ℕ, zero, suc, ◌+◌, ◌*◌, ◌/◌, ◌%◌, ◌^◌, ◌≤◌, ◌<◌}
use native.Mathlib.Omega.{arith}
use borrow.Author.Tests.{le-ltb, lt-leb, eqb-true, eqb-false}
use lib.Dec.{eqb, ltb}
use Rattle.requests.specs.Pieces.{digit_of, value_from, number_of, up_to}
use Rattle.text.specs.Digits.{glyph_of, digits_of, significant, decimal_text, hex_text}
use Rattle.written_proofs.specs.Steps.{begins}
use Rattle.written_proofs.specs.Reading.{number_said}

-- what holds of each number below another
unfoldable pub all_below : (ℕ → Bool) → ℕ → Bool
all_below f zero = true
all_below f (suc n) = f n && all_below f n

pub and_left : (p q : Bool) → (p && q) ≡ true → p ≡ true
and_left true q e = refl
and_left false q e = e

pub and_right : (p q : Bool) → (p && q) ≡ true → q ≡ true
and_right true q e = e
and_right false q e = let z : ◌≡◌ {A = ℕ} 0 1 = cc in absurd (omega arith)

pub below : (f : ℕ → Bool) (n : ℕ) → all_below f n ≡ true → (i : ℕ) → i < n → f i ≡ true
unfolding all_below
below f zero e i h = absurd (omega (arith, h))
below f (suc n) e i h = go (eqb i n) refl (below f n (and_right (f n) (all_below f n) e) i)
  where
    go : (b : Bool) → eqb i n ≡ b → (i < n → f i ≡ true) → f i ≡ true
    go true t ih = let z : i ≡ n = eqb-true i n t in rw z (and_left (f n) (all_below f n) e)
    go false t ih = ih (omega (arith, h, eqb-false i n t))

-- bytes that are no blanks, one or more
unfoldable pub solid : List ℕ → Bool
solid [] = true
solid (c ∷ cs) = ltb 32 c && solid cs

abbrev pub some_bytes : List ℕ → Bool
some_bytes [] = false
some_bytes (c ∷ cs) = solid (c ∷ cs)

abbrev sound : ℕ → Bool
sound n = option_eq eqb (number_said (decimal_text n)) (Some n) && (some_bytes (decimal_text n) && cond (begins (decimal_text n)) false true)

each_sound : all_below sound 512 ≡ true
unfolding all_below number_said number_of value_from digit_of significant digits_of up_to solid begins
each_sound = refl

pub some_told : (o : Option ℕ) (n : ℕ) → option_eq eqb o (Some n) ≡ true → o ≡ Some n
some_told None n e = cc
some_told (Some m) n e = ap (λ (k : ℕ). Some k) (eqb-true m n e)

module _ (n : ℕ) (h : n < 512) where
  pub number_back : number_said (decimal_text n) ≡ Some n
  number_back = some_told (number_said (decimal_text n)) n (and_left _ _ (below sound 512 each_sound n h))

  pub number_solid : some_bytes (decimal_text n) ≡ true
  number_solid = and_left (some_bytes (decimal_text n)) _ (and_right (option_eq eqb (number_said (decimal_text n)) (Some n)) _ (below sound 512 each_sound n h))

  pub number_begins : begins (decimal_text n) ≡ false
  number_begins = turned (begins (decimal_text n)) (and_right (some_bytes (decimal_text n)) _ (and_right (option_eq eqb (number_said (decimal_text n)) (Some n)) _ (below sound 512 each_sound n h)))
    where
      turned : (b : Bool) → cond b false true ≡ true → b ≡ false
      turned true e = sym e
      turned false e = refl

-- a word in hexadecimal digits
abbrev same_digit : ℕ → Bool
same_digit d = eqb (digit_of (glyph_of d)) d

each_digit : all_below same_digit 16 ≡ true
unfolding all_below digit_of
each_digit = refl

digit_back : (d : ℕ) → d < 16 → digit_of (glyph_of d) ≡ d
digit_back d h = eqb-true (digit_of (glyph_of d)) d (below same_digit 16 each_digit d h)

digit_on : (a b : ℕ) (rest : List ℕ) → a * 16 + b % 16 ≡ b → b ≤ 4294967295 → value_from 16 a (glyph_of (b % 16) ∷ rest) ≡ value_from 16 b rest
unfolding value_from
digit_on a b rest e h =
    let d : b % 16 < 16 = omega arith in
    rw (digit_back (b % 16) d, lt-leb 16 (b % 16) d, e, le-ltb 4294967295 b h)

pub hex_value : (w : ℕ) → w < 2 ^ 32 → value_from 16 0 (hex_text w) ≡ Some w
unfolding digits_of value_from
hex_value w h =
    digit_on 0 (w / 268435456) (digits_of 16 7 w) (omega arith) (omega arith)
    ∙ digit_on (w / 268435456) (w / 16777216) (digits_of 16 6 w) (omega arith) (omega arith)
    ∙ digit_on (w / 16777216) (w / 1048576) (digits_of 16 5 w) (omega arith) (omega arith)
    ∙ digit_on (w / 1048576) (w / 65536) (digits_of 16 4 w) (omega arith) (omega arith)
    ∙ digit_on (w / 65536) (w / 4096) (digits_of 16 3 w) (omega arith) (omega arith)
    ∙ digit_on (w / 4096) (w / 256) (digits_of 16 2 w) (omega arith) (omega arith)
    ∙ digit_on (w / 256) (w / 16) (digits_of 16 1 w) (omega arith) (omega arith)
    ∙ digit_on (w / 16) (w / 1) (digits_of 16 0 w) (omega arith) (omega arith)
    ∙ (let z : w / 1 ≡ w = omega arith in ap (λ (n : ℕ). Some n) z)
