-- Words made of bytes: the word at an index is made of the four bytes at four times that index, and a store of it goes on with the copy.
use Rattle.std.proofs.Common.{◌≡◌, ℕ, zero, suc, ◌+◌, ◌*◌, ◌%◌, ◌^◌, ◌<◌, ◌≤◌, List, [], ◌∷◌, ◌++◌, length, get_or, take, drop, set, sym, refl, ap, ◌∙◌, le_of_suc-le-suc, not-suc-le-zero, div-one, add-one, arith}
use lib.Pow.{split, shr_mod, mod-pow-add}
use Rattle.words.specs.Bytes.{word_of, words_of}
use Rattle.words.specs.Fields.{bits}
use Rattle.words.specs.Fingerprint.{word_bytes, bytes_of}

-- the word that begins at a byte
abbrev pub word_from : List ℕ → ℕ → ℕ
word_from bs at = word_of (get_or bs at 0) (get_or bs (at + 1) 0) (get_or bs (at + 2) 0) (get_or bs (at + 3) 0)

past_four : (a b c d : ℕ) (bs : List ℕ) (n m : ℕ) → n ≡ suc (suc (suc (suc m))) → get_or bs m 0 ≡ get_or (a ∷ b ∷ c ∷ d ∷ bs) n 0
past_four a b c d bs n m e = rw e

from_past_four : (a b c d : ℕ) (bs : List ℕ) (i : ℕ) → word_from bs (i * 4) ≡ word_from (a ∷ b ∷ c ∷ d ∷ bs) (suc i * 4)
from_past_four a b c d bs i =
    rw (
      past_four a b c d bs (suc i * 4) (i * 4) (omega arith),
      past_four a b c d bs (suc i * 4 + 1) (i * 4 + 1) (omega arith),
      past_four a b c d bs (suc i * 4 + 2) (i * 4 + 2) (omega arith),
      past_four a b c d bs (suc i * 4 + 3) (i * 4 + 3) (omega arith),
    )

pub words_at : (bs : List ℕ) (i : ℕ) → i * 4 + 4 ≤ length bs → get_or (words_of bs) i 0 ≡ word_from bs (i * 4)
unfolding words_of
words_at [] i h = absurd (omega arith)
words_at (a ∷ []) i h = absurd (omega arith)
words_at (a ∷ b ∷ []) i h = absurd (omega arith)
words_at (a ∷ b ∷ c ∷ []) i h = absurd (omega arith)
words_at (a ∷ b ∷ c ∷ d ∷ bs) zero h = refl
words_at (a ∷ b ∷ c ∷ d ∷ bs) (suc i) h = words_at bs i (omega arith) ∙ from_past_four a b c d bs i

pub words_reach : (bs : List ℕ) (i : ℕ) → i * 4 + 4 ≤ length bs → i < length (words_of bs)
unfolding words_of
words_reach [] i h = absurd (omega arith)
words_reach (a ∷ []) i h = absurd (omega arith)
words_reach (a ∷ b ∷ []) i h = absurd (omega arith)
words_reach (a ∷ b ∷ c ∷ []) i h = absurd (omega arith)
words_reach (a ∷ b ∷ c ∷ d ∷ bs) zero h = omega arith
words_reach (a ∷ b ∷ c ∷ d ∷ bs) (suc i) h = omega (arith, words_reach bs i (omega arith))

-- the bytes of words make those words again
pub data Words : List ℕ → Type 0 where
  none : Words []
  more : {w : ℕ} {ws : List ℕ} → w < 2 ^ 32 → Words ws → Words (w ∷ ws)

sum_again : (a b c d q r w : ℕ) → d * 2 ^ 24 + q ≡ w → q ≡ c * 2 ^ 16 + r → r ≡ b * 2 ^ 8 + a → word_of a b c d ≡ w
sum_again a b c d q r w p₁ p₂ p₃ = omega arith

word_again : (w : ℕ) → w < 2 ^ 32 → word_of (bits 0 8 w) (bits 8 8 w) (bits 16 8 w) (bits 24 8 w) ≡ w
word_again w h =
    sum_again (bits 0 8 w) (bits 8 8 w) (bits 16 8 w) (bits 24 8 w) (w % 2 ^ 24) (w % 2 ^ 16) w
    (rw (shr_mod 8 24 h) (split w 24)) (mod-pow-add w 8 16) (rw (div-one w) (mod-pow-add w 8 8))

pub words_again : {ws : List ℕ} → Words ws → words_of (bytes_of ws) ≡ ws
unfolding words_of bytes_of word_bytes
words_again none = refl
words_again (more {w} h rest) = rw (word_again w h, words_again rest)

store : (ws out : List ℕ) (i : ℕ) → i < length ws → i < length out
    → set (take i ws ++ drop i out) i (get_or ws i 0) ≡ take (suc i) ws ++ drop (suc i) out
store [] out i h k = absurd (not-suc-le-zero h)
store (x ∷ xs) [] i h k = absurd (not-suc-le-zero k)
store (x ∷ xs) (y ∷ ys) zero h k = refl
store (x ∷ xs) (y ∷ ys) (suc i) h k = ap (λ (l : List ℕ). x ∷ l) (store xs ys i (le_of_suc-le-suc h) (le_of_suc-le-suc k))

module _ (bs out₀ out : List ℕ) (i : ℕ) (so_far : out ≡ take i (words_of bs) ++ drop i out₀) where
  pub stored : i * 4 + 4 ≤ length bs → i < length out₀ → {w : ℕ} → w ≡ word_from bs (i * 4)
      → set out i w ≡ take (i + 1) (words_of bs) ++ drop (i + 1) out₀
  stored h k {w} e =
      rw (so_far, e ∙ sym (words_at bs i h), add-one i) (store (words_of bs) out₀ i (words_reach bs i h) k)
