-- Text written byte by byte, one law for each outcome, with premises as the code has them.
use mathlib.Core.Path.{◌≡◌, refl}
use mathlib.Core.List.{List, [], ◌∷◌}
use Prim.Native.Nat.{ℕ, zero, suc, ◌+◌, ◌-◌, ◌*◌, ◌/◌, ◌%◌, ◌^◌, ◌≤◌, ◌<◌, max}
use native.Mathlib.Nat.{pow-le-pow_right, pow-zero, pow-suc, pow-succ', one-mul, le-div_iff_mul-le, div-lt_iff_lt-mul, mul-div_cancel, mul-pos, mod-eq_of_lt, mod-lt, div-eq_of_lt}
use native.Mathlib.Numerals.{add-one}
use native.Mathlib.Omega.{arith}
use lib.ListN.{length, take, drop, get_or, drop_of_length-le}
use lib.Seq.{drop-cons, take_all}
use borrow.Author.Tests.{lt-ltb, ne_eqb, ltb-true, ltb-false}
use mathlib.Core.Bool.{Bool, true, false}
use lib.Dec.{ltb}
use Rattle.text.specs.Put.{Put}
use Rattle.text.specs.Digits.{glyph_of, digits_of, hex_text, significant, spaced_text, words_text, pairs_text, bytes_text}
use Rattle.text.proofs.Putting.{Left, begin, further, finish, then}

pub from_place : (own : List ℕ) (at : ℕ) → at < length own → drop at own ≡ get_or own at 0 ∷ drop (at + 1) own
from_place own at h = rw (add-one, drop-cons own at 0 h)

-- a text
module _ {first : List ℕ} {from : ℕ} {whole out : List ℕ} {at : ℕ} (text : List ℕ) (i : ℕ) (l : Left first from whole out at (drop i text)) where
  pub byte_more : i < length text → {out' : List ℕ} {at' : ℕ} → Put out at (get_or text i 0 ∷ []) out' at' → Left first from whole out' at' (drop (i + 1) text)
  byte_more h p = further (get_or text i 0 ∷ []) (drop (i + 1) text) (rw (from_place text i h) at l) p

  pub byte_last : length text ≤ i → Put first from whole out at
  byte_last h = finish (rw (drop_of_length-le text h) at l)

-- digits, the highest first
pub pow_pos : (base k : ℕ) → 2 ≤ base → 0 < base ^ k
pow_pos base zero h = rw (pow-zero base) (omega arith)
pow_pos base (suc k) h = rw (pow-suc base k) (mul-pos (pow_pos base k h) (omega arith))

next_power : (base k m power : ℕ) → 2 ≤ base → k ≡ suc m → power ≡ base ^ k → power / base ≡ base ^ m
next_power base k m power h s e = rw (e, s, pow-suc base m) (mul-div_cancel (base ^ m) (omega arith))

next_digit : (base k m n : ℕ) → k ≡ suc m → digits_of base k n ≡ glyph_of (n / base ^ m % base) ∷ digits_of base m n
unfolding digits_of
next_digit base k m n s = rw s

-- the power in the highest digit that is left, where one is
abbrev pub Highest : ℕ → ℕ → ℕ → Type 0
Highest base left power = 0 < left → power ≡ base ^ (left - 1)

module _ {base left power : ℕ} (h : 2 ≤ base) (e : Highest base left power) where
  pub power_some : 0 < left → 0 < power
  power_some some = rw (e some) (pow_pos base (left - 1) h)

  pub power_next : Highest base (left - 1) (power / base)
  power_next more = next_power base (left - 1) (left - 1 - 1) power h (omega arith) (e (omega arith))

module _ (base count n : ℕ) where
  pub digit_more : 0 < count → {first : List ℕ} {from : ℕ} {whole out : List ℕ} {at : ℕ} → Left first from whole out at (digits_of base count n)
      → {power : ℕ} → Highest base count power → {g : ℕ} → g ≡ glyph_of (n / power % base) → {out' : List ℕ} {at' : ℕ} → Put out at (g ∷ []) out' at'
      → Left first from whole out' at' (digits_of base (count - 1) n)
  digit_more some l ep e p =
      further (glyph_of (n / base ^ (count - 1) % base) ∷ []) (digits_of base (count - 1) n)
      (rw (next_digit base count (count - 1) n (omega arith)) at l) (rw (e, ep some) at p)

pub digit_below : (x base : ℕ) → 2 ≤ base → base ≤ 16 → x % base < 16
digit_below x base h k = let m : x % base < base = mod-lt x (omega arith) in omega arith

pub digit_last : (base count n : ℕ) {first : List ℕ} {from : ℕ} {whole out : List ℕ} {at : ℕ} → Left first from whole out at (digits_of base count n) → count ≤ 0 → Put first from whole out at
unfolding digits_of
digit_last base count n l h = let z : count ≡ 0 = omega arith in finish (rw z at l)

-- a word in decimal
short_digits : (k n : ℕ) → n < 10 ^ suc k → significant (digits_of 10 (suc (suc k)) n) ≡ significant (digits_of 10 (suc k) n)
unfolding significant digits_of
short_digits k n h = rw (div-eq_of_lt h)

head_counts : (d : ℕ) → 1 ≤ d → d < 10 → (glyph_of (d % 10) ≡ 48 → ⊥)
head_counts d h k e = let g : glyph_of (d % 10) ≡ 48 + d = rw (mod-eq_of_lt k, lt-ltb d 10 k) in omega arith

long_digits : (k n : ℕ) → 1 ≤ n / 10 ^ suc k → n / 10 ^ suc k < 10 → significant (digits_of 10 (suc (suc k)) n) ≡ digits_of 10 (suc (suc k)) n
unfolding significant digits_of
long_digits k n h l = rw (ne_eqb (glyph_of (n / 10 ^ suc k % 10)) 48 (head_counts (n / 10 ^ suc k) h l))

shorter : (n a b k : ℕ) → a ≡ suc (suc k) → b ≡ suc k → n < 10 ^ suc k → significant (digits_of 10 a n) ≡ significant (digits_of 10 b n)
shorter n a b k ea eb h = rw (ea, eb) (short_digits k n h)

longer : (n a k : ℕ) → a ≡ suc (suc k) → 1 ≤ n / 10 ^ suc k → n / 10 ^ suc k < 10 → significant (digits_of 10 a n) ≡ digits_of 10 a n
longer n a k ea h l = rw ea (long_digits k n h l)

at_least : (n p : ℕ) → 0 < p → p ≤ n → 1 ≤ n / p
at_least n p pos h = (le-div_iff_mul-le pos).1 (rw one-mul h)

at_most : (n b k : ℕ) → b ≡ suc k → n < 10 ^ suc (suc k) → n / 10 ^ suc k < 10
at_most n b k e h = (div-lt_iff_lt-mul (pow_pos 10 (suc k) (omega arith))).1 (rw (← pow-succ' 10 (suc k)) h)

-- the highest digit stays
highest : (n more : ℕ) → 10 ^ more ≤ max n 1 → n < 10 ^ suc more → significant (digits_of 10 (suc more) n) ≡ digits_of 10 (suc more) n
unfolding significant digits_of
highest n zero low high = refl
highest n (suc m) low high =
    let ten : 10 ^ suc m ≡ 10 ^ m * 10 = pow-suc 10 m in
    let some : 0 < 10 ^ m = pow_pos 10 m (omega arith) in
    let reached : 10 ^ suc m ≤ n = omega arith in
    longer n (suc (suc m)) m refl (at_least n (10 ^ suc m) (pow_pos 10 (suc m) (omega arith)) reached) (at_most n (suc m) m refl high)

-- what is left to be written of a number in decimal, so many places from its end: each of them where one that counts was written
pub record Counting (n left power : ℕ) (first : List ℕ) (from : ℕ) (whole out : List ℕ) (at : ℕ) : Type 0 where
  pub place : Highest 10 left power
  pub begun : 10 ^ left ≤ n → Left first from whole out at (digits_of 10 left n)
  pub none : n < 10 ^ left → Left first from whole out at (significant (digits_of 10 left n))

pub counting_begin : (n places power : ℕ) (out : List ℕ) (at : ℕ) → power ≡ 10 ^ (places - 1) → n < 10 ^ places
    → Counting n places power out at (significant (digits_of 10 places n)) out at
counting_begin n places power out at e h = record {
  place = λ some. e;
  begun = λ g. absurd (omega arith);
  none = λ g. begin out at (significant (digits_of 10 places n));
}

module _ {n left power : ℕ} {first : List ℕ} {from : ℕ} {whole out : List ℕ} {at : ℕ} (c : Counting n left power first from whole out at) (some : 0 < left) where
  one_more : left ≡ suc (left - 1)
  one_more = omega arith

  is_power : power ≡ 10 ^ (left - 1)
  is_power = c.place some

  pub ten_some : 0 < power
  ten_some = power_some (omega arith) c.place some

  lower : Highest 10 (left - 1) (power / 10)
  lower = power_next (omega arith) c.place

  all_left : 10 ^ (left - 1) ≤ max n 1 → Left first from whole out at (digits_of 10 left n)
  all_left low = go (ltb n (10 ^ left)) refl
    where
      go : (b : Bool) → ltb n (10 ^ left) ≡ b → Left first from whole out at (digits_of 10 left n)
      go false k = c.begun (ltb-false n (10 ^ left) k)
      go true k =
          let h : n < 10 ^ left = ltb-true n (10 ^ left) k in
          let e : significant (digits_of 10 left n) ≡ digits_of 10 left n = rw one_more (highest n (left - 1) low (rw one_more at h)) in
          rw e at (c.none h)

  -- a digit that counts, or the last
  module _ {g : ℕ} (e : g ≡ glyph_of (n / power % 10)) {out' : List ℕ} {at' : ℕ} (p : Put out at (g ∷ []) out' at') where
    pub counted_more : power ≤ n → Counting n (left - 1) (power / 10) first from whole out' at'
    counted_more h = record {
      place = lower;
      begun = λ k. digit_more 10 left n some (all_left (omega (arith, is_power))) c.place e p;
      none = λ k. absurd (omega (arith, is_power));
    }

    pub counted_end : left - 1 ≡ 0 → Counting n (left - 1) (power / 10) first from whole out' at'
    unfolding significant digits_of
    counted_end z =
        let low : 10 ^ (left - 1) ≤ max n 1 = rw (z, pow-zero 10) (omega arith) in
        let l : Left first from whole out' at' (digits_of 10 (left - 1) n) = digit_more 10 left n some (all_left low) c.place e p in
        record { place = lower; begun = λ k. l; none = λ k. rw z (rw z at l) }

  -- a zero in front
  pub counted_zero : n < power → (left - 1 ≡ 0 → ⊥) → Counting n (left - 1) (power / 10) first from whole out at
  counted_zero h more =
      let two : left ≡ suc (suc (left - 1 - 1)) = omega arith in
      let next : left - 1 ≡ suc (left - 1 - 1) = omega arith in
      let below : n < 10 ^ (left - 1) = omega (arith, is_power) in
      let up : 10 ^ (left - 1) ≤ 10 ^ left = pow-le-pow_right (omega arith) (omega arith) in
      let e : significant (digits_of 10 left n) ≡ significant (digits_of 10 (left - 1) n) = shorter n left (left - 1) (left - 1 - 1) two next (rw next at below) in
      record { place = lower; begun = λ k. absurd (omega arith); none = λ k. rw e at (c.none (omega arith)) }

pub counted_last : {n left power : ℕ} {first : List ℕ} {from : ℕ} {whole out : List ℕ} {at : ℕ} → Counting n left power first from whole out at → left ≤ 0 → Put first from whole out at
unfolding significant digits_of
counted_last {n} {left} {first = first} {from} {whole} {out} {at} c h = go (ltb n (10 ^ left)) refl
  where
    go : (b : Bool) → ltb n (10 ^ left) ≡ b → Put first from whole out at
    go false k = let z : left ≡ 0 = omega arith in finish (rw z at (c.begun (ltb-false n (10 ^ left) k)))
    go true k = let z : left ≡ 0 = omega arith in finish (rw z at (c.none (ltb-true n (10 ^ left) k)))

-- words with a space before each
module _ {first : List ℕ} {from : ℕ} {whole out : List ℕ} {at : ℕ} (ws : List ℕ) (i : ℕ) (l : Left first from whole out at (spaced_text (drop i ws))) where
  pub spaced_more : i < length ws → {mid : List ℕ} {next : ℕ} → Put out at (32 ∷ []) mid next → {out' : List ℕ} {at' : ℕ} → Put mid next (hex_text (get_or ws i 0)) out' at'
      → Left first from whole out' at' (spaced_text (drop (i + 1) ws))
  unfolding spaced_text
  spaced_more h p q = further (32 ∷ hex_text (get_or ws i 0)) (spaced_text (drop (i + 1) ws)) (rw (from_place ws i h) at l) (then p q)

  pub spaced_last : length ws ≤ i → Put first from whole out at
  unfolding spaced_text
  spaced_last h = finish (rw (drop_of_length-le ws h) at l)

-- words with spaces between them
pub list_some : {out : List ℕ} {at : ℕ} (ws : List ℕ) → (length ws ≡ 0 → ⊥) → {mid : List ℕ} {next : ℕ} → Put out at (hex_text (get_or ws 0 0)) mid next
    → {out' : List ℕ} {at' : ℕ} → Put mid next (spaced_text (take (length ws - 1) (drop 1 ws))) out' at' → Put out at (words_text ws) out' at'
unfolding words_text
list_some [] n p q = absurd (n refl)
list_some (w ∷ ws) n p q = then p (rw (take_all (length (w ∷ ws) - 1) ws (omega arith)) at q)

-- bytes run together
module _ {first : List ℕ} {from : ℕ} {whole out : List ℕ} {at : ℕ} (bs : List ℕ) (i : ℕ) (l : Left first from whole out at (pairs_text (drop i bs))) where
  pub pairs_more : i < length bs → {out' : List ℕ} {at' : ℕ} → Put out at (digits_of 16 2 (get_or bs i 0)) out' at' → Left first from whole out' at' (pairs_text (drop (i + 1) bs))
  unfolding pairs_text
  pairs_more h p = further (digits_of 16 2 (get_or bs i 0)) (pairs_text (drop (i + 1) bs)) (rw (from_place bs i h) at l) p

  pub pairs_last : length bs ≤ i → Put first from whole out at
  unfolding pairs_text
  pairs_last h = finish (rw (drop_of_length-le bs h) at l)

pub bytes_none : {out : List ℕ} {at : ℕ} (bs : List ℕ) → length bs ≡ 0 → {out' : List ℕ} {at' : ℕ} → Put out at (45 ∷ []) out' at' → Put out at (bytes_text bs) out' at'
unfolding bytes_text
bytes_none [] e p = p
bytes_none (b ∷ bs) e p = absurd (omega arith)

pub bytes_some : {out : List ℕ} {at : ℕ} (bs : List ℕ) → (length bs ≡ 0 → ⊥) → {out' : List ℕ} {at' : ℕ} → Put out at (pairs_text bs) out' at' → Put out at (bytes_text bs) out' at'
unfolding bytes_text
bytes_some [] n p = absurd (n refl)
bytes_some (b ∷ bs) n p = p
