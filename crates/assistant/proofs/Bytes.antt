-- Words as bytes, one law for each outcome, with premises as the code has them.
use mathlib.Core.Path.{◌≡◌}
use mathlib.Core.List.{List, [], ◌∷◌}
use Prim.Native.Nat.{ℕ, ◌+◌, ◌/◌, ◌%◌, ◌≤◌, ◌<◌}
use native.Mathlib.Omega.{arith}
use lib.ListN.{length, drop, get_or, drop_of_length-le}
use Rattle.words.specs.Fingerprint.{word_bytes, bytes_of}
use Rattle.text.specs.Put.{Put}
use Rattle.text.proofs.Putting.{Left, begin, further, finish, then}
use Rattle.text.proofs.Written.{from_place}

lowest : (w : ℕ) → w % 256 ≡ w / 1 % 256
lowest w = omega arith

pub word_is : {o₀ o₁ o₂ o₃ o₄ : List ℕ} {n₀ n₁ n₂ n₃ n₄ : ℕ} (w : ℕ) → Put o₀ n₀ (w % 256 ∷ []) o₁ n₁ → Put o₁ n₁ (w / 256 % 256 ∷ []) o₂ n₂
    → Put o₂ n₂ (w / 65536 % 256 ∷ []) o₃ n₃ → Put o₃ n₃ (w / 16777216 % 256 ∷ []) o₄ n₄ → Put o₀ n₀ (word_bytes w) o₄ n₄
unfolding word_bytes
word_is w a b c d = then (rw (lowest w) at a) (then b (then c d))

module _ {first : List ℕ} {from : ℕ} {whole out : List ℕ} {at : ℕ} (list : List ℕ) (i : ℕ) (l : Left first from whole out at (bytes_of (drop i list))) where
  pub words_over : length list ≤ i → Put first from whole out at
  unfolding bytes_of
  words_over h = finish (rw (drop_of_length-le list h) at l)

  pub words_more : i < length list → {out' : List ℕ} {at' : ℕ} → Put out at (word_bytes (get_or list i 0)) out' at'
      → Left first from whole out' at' (bytes_of (drop (i + 1) list))
  unfolding bytes_of
  words_more h p = further (word_bytes (get_or list i 0)) (bytes_of (drop (i + 1) list)) (rw (from_place list i h) at l) p

pub ruleset words_laws = (begin, words_over, words_more)
