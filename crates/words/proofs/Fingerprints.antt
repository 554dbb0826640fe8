-- The fingerprint goes on over lists put together, and its loops by one law over how an element is spread into bytes.
use Rattle.std.proofs.Common.{◌≡◌, ℕ, ◌+◌, ◌*◌, ◌%◌, ◌^◌, ◌<◌, ◌≤◌, List, [], ◌∷◌, ◌++◌, length, get_or, drop, sym, refl, ap, ◌∙◌, add-one, arith, drop_of_length-le, drop-cons}
use native.Mathlib.Nat.{mod-add-mod, add-mod-mod}
use lib.Bits.{bit_xor}
use Rattle.words.specs.Fields.{bits}
use Rattle.words.specs.Fingerprint.{product, mixed, fnv, word_bytes, bytes_of}

-- what wraps may wrap once, at the end
wrap_left : (a b : ℕ) → (a % 2 ^ 32 + b) % 2 ^ 32 ≡ (a + b) % 2 ^ 32
wrap_left a b = mod-add-mod a (2 ^ 32) b

wrap_both : (a b : ℕ) → (a % 2 ^ 32 + b % 2 ^ 32) % 2 ^ 32 ≡ (a + b) % 2 ^ 32
wrap_both a b = wrap_left a (b % 2 ^ 32) ∙ add-mod-mod a b (2 ^ 32)

-- the product from shifted copies, added with wrap: the prime is 2^24 + 2^8 + 2^7 + 2^4 + 2 + 1
module _ (h : ℕ) {high middle low rest r : ℕ} where
  pub from_copies : r ≡ (high + rest) % 2 ^ 32 → rest ≡ (middle + low) % 2 ^ 32 → low ≡ (h * 2 ^ 1 % 2 ^ 32 + h) % 2 ^ 32
      → middle ≡ (h * 2 ^ 7 % 2 ^ 32 + h * 2 ^ 4 % 2 ^ 32) % 2 ^ 32 → high ≡ (h * 2 ^ 24 % 2 ^ 32 + h * 2 ^ 8 % 2 ^ 32) % 2 ^ 32
      → r ≡ product h
  unfolding product
  from_copies whole r-is l m hi =
      whole
      ∙ rw (r-is, hi, m, l, wrap_both (h * 2 ^ 24), wrap_both (h * 2 ^ 7), wrap_left (h * 2 ^ 1), wrap_both (h * 2 ^ 7 + h * 2 ^ 4), wrap_both (h * 2 ^ 24 + h * 2 ^ 8))
      (ap (λ (n : ℕ). n % 2 ^ 32) sum)
    where
      sum : (h * 2 ^ 24 + h * 2 ^ 8) + ((h * 2 ^ 7 + h * 2 ^ 4) + (h * 2 ^ 1 + h)) ≡ h * 0x01000193
      sum = omega arith

pub mixed_none : (h : ℕ) → mixed h [] ≡ h
unfolding mixed
mixed_none h = refl

pub mixed_more : (h b : ℕ) (bs : List ℕ) → mixed h (b ∷ bs) ≡ mixed (product (bit_xor h b)) bs
unfolding mixed
mixed_more h b bs = refl

pub mixed_one : {r : ℕ} (h b : ℕ) → r ≡ product (bit_xor h b) → r ≡ mixed h (b ∷ [])
mixed_one h b e = e ∙ sym (mixed_more h b [] ∙ mixed_none _)

pub mixed_append : (h : ℕ) (xs ys : List ℕ) → mixed h (xs ++ ys) ≡ mixed (mixed h xs) ys
mixed_append h [] ys = rw mixed_none
mixed_append h (x ∷ xs) ys = mixed_more h x (xs ++ ys) ∙ mixed_append (product (bit_xor h x)) xs ys ∙ ap (λ (n : ℕ). mixed n ys) (sym (mixed_more h x xs))

mixed_word : (h w : ℕ)
    → mixed (mixed (mixed (mixed h (bits 0 8 w ∷ [])) (bits 8 8 w ∷ [])) (bits 16 8 w ∷ [])) (bits 24 8 w ∷ []) ≡ mixed h (word_bytes w)
unfolding word_bytes mixed
mixed_word h w = refl

module _ (h w : ℕ) {first second third r : ℕ} where
  pub by_bytes : r ≡ mixed third (bits 24 8 w ∷ []) → third ≡ mixed second (bits 16 8 w ∷ [])
      → second ≡ mixed first (bits 8 8 w ∷ []) → first ≡ mixed h (bits 0 8 w ∷ []) → r ≡ mixed h (word_bytes w)
  by_bytes d c b a = d ∙ rw (c, b, a) (mixed_word h w)

-- the loop over a list of bytes, or of what is spread into bytes
module _ (spread : List ℕ → List ℕ) (one : ℕ → List ℕ) (none : spread [] ≡ [])
    (more : (x : ℕ) (xs : List ℕ) → spread (x ∷ xs) ≡ one x ++ spread xs) where
  pub begin : (xs : List ℕ) → fnv (spread xs) ≡ mixed 0x811C9DC5 (spread (drop 0 xs))
  unfolding fnv
  begin xs = refl

  module _ (xs : List ℕ) (h i : ℕ) (so_far : fnv (spread xs) ≡ mixed h (spread (drop i xs))) where
    pub turn : i < length xs → {r : ℕ} → r ≡ mixed h (one (get_or xs i 0)) → fnv (spread xs) ≡ mixed r (spread (drop (i + 1) xs))
    turn l {r} e =
        so_far ∙ ap (λ (ys : List ℕ). mixed h (spread ys)) (drop-cons xs i 0 l)
        ∙ ap (mixed h) (more (get_or xs i 0) _) ∙ mixed_append h (one (get_or xs i 0)) _
        ∙ rw (e, add-one)

    pub finish : length xs ≤ i → h ≡ fnv (spread xs)
    finish l =
        sym (so_far ∙ ap (λ (ys : List ℕ). mixed h (spread ys)) (drop_of_length-le xs l) ∙ ap (mixed h) none ∙ mixed_none h)

module _ (ws : List ℕ) where
  pub begin_words : fnv (bytes_of ws) ≡ mixed 0x811C9DC5 (bytes_of (drop 0 ws))
  unfolding bytes_of
  begin_words = begin bytes_of word_bytes refl (λ x xs. refl) ws

  module _ (h i : ℕ) (so_far : fnv (bytes_of ws) ≡ mixed h (bytes_of (drop i ws))) where
    pub turn_words : i < length ws → {r : ℕ} → r ≡ mixed h (word_bytes (get_or ws i 0)) → fnv (bytes_of ws) ≡ mixed r (bytes_of (drop (i + 1) ws))
    unfolding bytes_of
    turn_words = turn bytes_of word_bytes refl (λ x xs. refl) ws h i so_far

    pub finish_words : length ws ≤ i → h ≡ fnv (bytes_of ws)
    unfolding bytes_of
    finish_words = finish bytes_of word_bytes refl (λ x xs. refl) ws h i so_far

module _ (bs : List ℕ) where
  pub begin_bytes : fnv bs ≡ mixed 0x811C9DC5 (drop 0 bs)
  begin_bytes = begin (λ xs. xs) (λ b. b ∷ []) refl (λ x xs. refl) bs

  module _ (h i : ℕ) (so_far : fnv bs ≡ mixed h (drop i bs)) where
    pub turn_bytes : i < length bs → {b r : ℕ} → b ≡ get_or bs i 0 → r ≡ mixed h (b ∷ []) → fnv bs ≡ mixed r (drop (i + 1) bs)
    turn_bytes l be e = turn (λ xs. xs) (λ b. b ∷ []) refl (λ x xs. refl) bs h i so_far l (cc)

    pub finish_bytes : length bs ≤ i → h ≡ fnv bs
    finish_bytes = finish (λ xs. xs) (λ b. b ∷ []) refl (λ x xs. refl) bs h i so_far
