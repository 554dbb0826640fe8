-- The fingerprint taken word by word, and part by part.
use mathlib.Core.Path.{◌≡◌, refl, sym}
use mathlib.Core.List.{List, [], ◌∷◌}
use Prim.Native.Nat.{ℕ, zero, suc, ◌+◌, ◌≤◌, ◌<◌}
use native.Mathlib.Numerals.{add-one}
use lib.ListN.{length, take, drop, get_or, drop_of_length-le}
use lib.Seq.{drop-cons}
use Rattle.words.specs.Fingerprint.{mixed, fnv, word_bytes, bytes_of, fingerprint}
use Rattle.words.proofs.Fingerprints.{mixed_none, mixed_append}

pub mixed_word : (h w : ℕ) (ws : List ℕ) → mixed h (bytes_of (w ∷ ws)) ≡ mixed (mixed h (word_bytes w)) (bytes_of ws)
unfolding bytes_of
mixed_word h w ws = mixed_append h (word_bytes w) (bytes_of ws)

pub mixed_no_words : (h : ℕ) → mixed h (bytes_of []) ≡ h
unfolding bytes_of
mixed_no_words h = mixed_none h

-- one word more
pub mixed_step : (own : List ℕ) (at : ℕ) → at < length own → (h : ℕ) {k : ℕ} → k ≡ mixed h (word_bytes (get_or own at 0)) → mixed h (bytes_of (drop at own)) ≡ mixed k (bytes_of (drop (at + 1) own))
mixed_step own at l h e = rw (drop-cons own at 0 l, mixed_word, add-one, e)

-- no word more
pub mixed_end : (own : List ℕ) (at : ℕ) → length own ≤ at → (h : ℕ) → mixed h (bytes_of (drop at own)) ≡ h
mixed_end own at l h = rw (drop_of_length-le own l, mixed_no_words)

-- the first words, then the others
pub mixed_part : (n : ℕ) (ws : List ℕ) (h : ℕ) → mixed h (bytes_of ws) ≡ mixed (mixed h (bytes_of (take n ws))) (bytes_of (drop n ws))
mixed_part zero ws h = rw mixed_no_words
mixed_part (suc n) [] h = sym (mixed_no_words (mixed h (bytes_of [])))
mixed_part (suc n) (w ∷ ws) h = rw (mixed_word, mixed_word) (mixed_part n ws (mixed h (word_bytes w)))

pub mixed_begin : (body : List ℕ) → fingerprint body ≡ mixed 0x811C9DC5 (bytes_of (drop 0 body))
unfolding fnv
mixed_begin body = refl
