-- Facts on lists: what holds of every element, and the element at a place.
use lib.ListN.{length, take, drop, get_elem?}
use mathlib.Core.List.{List, [], ◌∷◌, ◌++◌, map}
use mathlib.Core.Logic.{◌⊎◌, inl, inr}
use mathlib.Core.Option.{none, some}
use mathlib.Core.Path.{◌≡◌, refl, ap}
use native.Mathlib.Omega.{arith}
use Prim.Native.Nat.{ℕ, zero, suc, ◌<◌}

pub none_some : {A : Type 0} {a : A} → none ≡ some a → ⊥
none_some e = let z : ◌≡◌ {A = ℕ} 0 1 = cc in omega arith

unfoldable pub All : {A : Type 0} → (A → Type 0) → List A → Type 0
All P [] = Unit {0}
All P (x ∷ xs) = P x × All P xs

module _ {A : Type 0} (P : A → Type 0) where
  pub all_left : (xs ys : List A) → All P (xs ++ ys) → All P xs
  unfolding All
  all_left [] ys h = tt
  all_left (x ∷ xs) ys h = (h.0, all_left xs ys h.1)

  pub all_right : (xs ys : List A) → All P (xs ++ ys) → All P ys
  unfolding All
  all_right [] ys h = h
  all_right (x ∷ xs) ys h = all_right xs ys h.1

  pub all_at : (xs : List A) (n : ℕ) {x : A} → get_elem? xs n ≡ some x → All P xs → P x
  unfolding All
  all_at [] n e h = absurd (none_some e)
  all_at (x ∷ xs) zero {x = y} e h = let same : x ≡ y = cc in rw same at h.0
  all_at (x ∷ xs) (suc n) e h = all_at xs n e h.1

  pub all_append : (xs ys : List A) → All P xs → All P ys → All P (xs ++ ys)
  unfolding All
  all_append [] ys h k = k
  all_append (x ∷ xs) ys h k = (h.0, all_append xs ys h.1 k)

  pub all_more : (Q : A → Type 0) → ((x : A) → P x → Q x) → (xs : List A) → All P xs → All Q xs
  unfolding All
  all_more Q f [] h = tt
  all_more Q f (x ∷ xs) h = (f x h.0, all_more Q f xs h.1)

module _ {A : Type 0} where
  pub some_below : (xs : List A) (n : ℕ) {x : A} → get_elem? xs n ≡ some x → n < length xs
  some_below [] n e = absurd (none_some e)
  some_below (y ∷ xs) zero e = omega arith
  some_below (y ∷ xs) (suc n) e = let h = some_below xs n e in omega arith

  pub length_others : (xs : List A) (n : ℕ) {x : A} → get_elem? xs n ≡ some x → suc (length (take n xs ++ drop (suc n) xs)) ≡ length xs
  length_others [] n e = absurd (none_some e)
  length_others (y ∷ xs) zero e = refl
  length_others (y ∷ xs) (suc n) e = ap suc (length_others xs n e)

  pub some_append : (xs ys : List A) (n : ℕ) {x : A} → get_elem? xs n ≡ some x → get_elem? (xs ++ ys) n ≡ some x
  some_append [] ys n e = absurd (none_some e)
  some_append (y ∷ xs) ys zero e = e
  some_append (y ∷ xs) ys (suc n) e = some_append xs ys n e

  pub some_last : (xs : List A) (last : A) → get_elem? (xs ++ (last ∷ [])) (length xs) ≡ some last
  some_last [] last = refl
  some_last (x ∷ xs) last = some_last xs last

  -- the last of a list, or one before it
  pub last_or_before : (xs : List A) (last : A) (n : ℕ) {x : A} → get_elem? (xs ++ (last ∷ [])) n ≡ some x
      → ((n ≡ length xs) × (x ≡ last)) ⊎ ((n < length xs) × (get_elem? xs n ≡ some x))
  last_or_before [] last zero e = inl (refl, cc)
  last_or_before [] last (suc n) e = absurd (none_some e)
  last_or_before (y ∷ xs) last zero e = inr (omega arith, e)
  last_or_before (y ∷ xs) last (suc n) e = elim (last_or_before xs last n e) [ inl h ↦ inl (ap suc h.0, h.1) | inr h ↦ inr (omega arith, h.1) ]

module _ {A B : Type 0} (f : A → B) where
  pub map_nil_back : (xs : List A) → map f xs ≡ [] → xs ≡ []
  map_nil_back [] e = refl
  map_nil_back (x ∷ xs) e = let z : ◌≡◌ {A = ℕ} 0 1 = cc in absurd (omega arith)

  pub map_cons_back : (xs : List A) {y : B} {ys : List B} → map f xs ≡ y ∷ ys
      → (x : A) × (rest : List A) × (xs ≡ x ∷ rest) × (f x ≡ y) × (map f rest ≡ ys)
  map_cons_back [] e = let z : ◌≡◌ {A = ℕ} 0 1 = cc in absurd (omega arith)
  map_cons_back (x ∷ xs) e = (x, xs, refl, cc, cc)

  pub map_take : (n : ℕ) (xs : List A) → map f (take n xs) ≡ take n (map f xs)
  map_take zero xs = refl
  map_take (suc n) [] = refl
  map_take (suc n) (x ∷ xs) = ap {B = List B} (λ r. f x ∷ r) (map_take n xs)

  pub map_drop : (n : ℕ) (xs : List A) → map f (drop n xs) ≡ drop n (map f xs)
  map_drop zero xs = refl
  map_drop (suc n) [] = refl
  map_drop (suc n) (x ∷ xs) = map_drop n xs

  pub map_some : (xs : List A) (n : ℕ) {a : A} → get_elem? xs n ≡ some a → get_elem? (map f xs) n ≡ some (f a)
  map_some [] n e = absurd (none_some e)
  map_some (x ∷ xs) zero e = cc
  map_some (x ∷ xs) (suc n) e = map_some xs n e

  pub map_some_back : (xs : List A) (n : ℕ) {b : B} → get_elem? (map f xs) n ≡ some b → (a : A) × (get_elem? xs n ≡ some a) × (f a ≡ b)
  map_some_back [] n e = absurd (none_some e)
  map_some_back (x ∷ xs) zero e = (x, refl, cc)
  map_some_back (x ∷ xs) (suc n) e = map_some_back xs n e
