-- What holds of every element of a list, and of what is there or not.
use mathlib.Core.Bool.{Bool, true, false}
use mathlib.Core.List.{List, [], ◌∷◌, ◌++◌, map, Memᴰ}
use mathlib.Core.Option.{Option, some}
use mathlib.Core.Path.{◌≡◌, refl, ap}
use native.Mathlib.Omega.{arith}
use Prim.Native.Nat.{ℕ}

pub some_same : {A : Type 0} {a b : A} → ◌≡◌ {A = Option A} (some a) (some b) → a ≡ b
some_same e = cc

pub true_false : {A : Type 0} {b : Bool} → b ≡ true → b ≡ false → A
true_false {A} e f = let z : ◌≡◌ {A = ℕ} 0 1 = cc in let n : ⊥ = omega arith in absurd n

pub data All {A : Type 0} (P : A → Type 0) : List A → Type 0 where
  end : All P []
  ◌also◌ : {a : A} {xs : List A} → P a → All P xs → All P (a ∷ xs)

infixr 50 ◌also◌
module _ {A : Type 0} where
  pub all_first : {P : A → Type 0} {a : A} {xs : List A} → All P (a ∷ xs) → P a
  all_first (p also ps) = p

  pub all_rest : {P : A → Type 0} {a : A} {xs : List A} → All P (a ∷ xs) → All P xs
  all_rest (p also ps) = ps

  pub all_append : {P : A → Type 0} {xs ys : List A} → All P xs → All P ys → All P (xs ++ ys)
  all_append end q = q
  all_append (p also ps) q = p also all_append ps q

  pub all_left : {P : A → Type 0} (xs ys : List A) → All P (xs ++ ys) → All P xs
  all_left [] ys p = end
  all_left (a ∷ xs) ys p = all_first p also all_left xs ys (all_rest p)

  pub all_right : {P : A → Type 0} (xs ys : List A) → All P (xs ++ ys) → All P ys
  all_right [] ys p = p
  all_right (a ∷ xs) ys p = all_right xs ys (all_rest p)

  pub all_then : {P Q : A → Type 0} {xs : List A} → ((a : A) → P a → Q a) → All P xs → All Q xs
  all_then f end = end
  all_then f (◌also◌ {a = a} p ps) = f a p also all_then f ps

  pub all_of : {P : A → Type 0} → ((a : A) → P a) → (xs : List A) → All P xs
  all_of f [] = end
  all_of f (a ∷ xs) = f a also all_of f xs

  pub all_member : {P : A → Type 0} {a : A} {xs : List A} → All P xs → Memᴰ a xs → P a
  all_member p (Memᴰ.head e) = rw e (all_first p)
  all_member p (Memᴰ.tail i) = all_member (all_rest p) i

  pub all_members : {P : A → Type 0} (xs : List A) → ((a : A) → Memᴰ a xs → P a) → All P xs
  all_members [] f = end
  all_members (a ∷ xs) f = f a (Memᴰ.head refl) also all_members xs (λ b i. f b (Memᴰ.tail i))

-- in order: each element stands in the relation to every later one
pub data Ordered {A : Type 0} (R : A → A → Type 0) : List A → Type 0 where
  done : Ordered R []
  ◌ahead◌ : {a : A} {xs : List A} → All (R a) xs → Ordered R xs → Ordered R (a ∷ xs)

infixr 50 ◌ahead◌
pub ordered_append :
    {A : Type 0} {R : A → A → Type 0} {xs ys : List A} → Ordered R xs → Ordered R ys → All (λ a. All (R a) ys) xs → Ordered R (xs ++ ys)
ordered_append done q r = q
ordered_append (p ahead ps) q r = all_append p (all_first r) ahead ordered_append ps q (all_rest r)
