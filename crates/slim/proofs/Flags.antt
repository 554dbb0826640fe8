-- Facts on tests over lists, on flags, and on what they choose.
use lib.ListN.{length, take, drop, get_or, set, length-append, length-drop, drop_of_length-le, get_or-append}
use lib.Seq.{take-suc, take-add, drop-cons, take_all, length-take-le, set_at, set-get_or, get_or_at, append_snoc}
use mathlib.Core.Bool.{Bool, true, false, ◌||◌}
use mathlib.Core.List.{List, [], ◌∷◌, ◌++◌, append-nil}
use mathlib.Core.Path.{◌≡◌, refl, sym, ap, ap₂, ◌∙◌}
use native.Mathlib.Decide.{dec_lt}
use native.Mathlib.Omega.{arith}
use native.Mathlib.Numerals.{add-one}
use Prim.Native.Nat.{ℕ, zero, suc, ◌+◌, ◌-◌, ◌≤◌, ◌<◌}
use Rattle.table.specs.Limits.{Each}
use Rattle.slim.specs.Dropping.{some_of, with_flag, chosen}
use Rattle.slim.specs.Rounds.{flags_up_to}
use Rattle.slim.specs.Call.{numbers_up_to}

pub or_false : (b : Bool) → (b || false) ≡ b
or_false true = refl
or_false false = refl

pub or_assoc : (a b c : Bool) → (a || (b || c)) ≡ ((a || b) || c)
or_assoc true b c = refl
or_assoc false b c = refl

module _ {A : Type 0} (test : A → Bool) where
  pub some_append : (xs ys : List A) → some_of test (xs ++ ys) ≡ (some_of test xs || some_of test ys)
  unfolding some_of
  some_append [] ys = refl
  some_append (x ∷ xs) ys = ap (λ (b : Bool). test x || b) (some_append xs ys) ∙ or_assoc (test x) (some_of test xs) (some_of test ys)

  pub some_one : (x : A) → some_of test (x ∷ []) ≡ test x
  unfolding some_of
  some_one x = or_false (test x)

  -- one element more
  pub some_next : (xs : List A) (i : ℕ) (other : A) → i < length xs → some_of test (take (i + 1) xs) ≡ (some_of test (take i xs) || test (get_or xs i other))
  some_next xs i other h =
      ap (λ (n : ℕ). some_of test (take n xs)) (add-one i)
      ∙ ap (λ (ys : List A). some_of test ys) (take-suc xs i other h)
      ∙ some_append (take i xs) (get_or xs i other ∷ [])
      ∙ ap (λ (b : Bool). some_of test (take i xs) || b) (some_one (get_or xs i other))

  -- some of a front
  pub some_front : (xs : List A) (m n : ℕ) → m ≤ n → some_of test (take m xs) ≡ true → some_of test (take n xs) ≡ true
  some_front xs m n h e =
      let z : m + (n - m) ≡ n = omega arith in
      ap (λ (k : ℕ). some_of test (take k xs)) (sym z)
      ∙ ap (λ (ys : List A). some_of test ys) (take-add m (n - m) xs)
      ∙ some_append (take m xs) (take (n - m) (drop m xs))
      ∙ rw e

-- flags up to a number
pub flags_length : (n : ℕ) (f : ℕ → Bool) → length (flags_up_to n f) ≡ n
unfolding flags_up_to
flags_length zero f = refl
flags_length (suc n) f = length-append (flags_up_to n f) (f n ∷ []) ∙ omega (arith, flags_length n f)

-- one flag more, in place of the one that stands there
module _ (before : List Bool) (f : ℕ → Bool) where
  abbrev pub flagged : ℕ → List Bool
  flagged n = flags_up_to n f ++ drop n before

  pub flagged_none : before ≡ flagged 0
  unfolding flags_up_to
  flagged_none = refl

  pub flagged_next : (n : ℕ) → n < length before → set (flagged n) n (f n) ≡ flagged (n + 1)
  unfolding flags_up_to
  flagged_next n h =
      ap (λ (bs : List Bool). set (flags_up_to n f ++ bs) n (f n)) (drop-cons before n false h)
      ∙ set_at (flags_up_to n f) (get_or before n false) (drop (suc n) before) (f n) n (flags_length n f)
      ∙ sym (append_snoc (flags_up_to n f) (f n) (drop (suc n) before))
      ∙ ap (λ (k : ℕ). flags_up_to k f ++ drop k before) (sym (add-one n))

  pub flagged_now : (n : ℕ) → n < length before → get_or (flagged n) n false ≡ get_or before n false
  flagged_now n h =
      ap (λ (bs : List Bool). get_or (flags_up_to n f ++ bs) n false) (drop-cons before n false h)
      ∙ get_or_at (flags_up_to n f) (get_or before n false) (drop (suc n) before) false n (flags_length n f)

  -- a flag that stays as it stands
  pub flagged_still : (n : ℕ) → n < length before → f n ≡ get_or before n false → flagged n ≡ flagged (n + 1)
  flagged_still n h e =
      sym (set-get_or (flagged n) n false)
      ∙ ap (λ (b : Bool). set (flagged n) n b) (flagged_now n h ∙ sym e)
      ∙ flagged_next n h

  pub flagged_length : (n : ℕ) → n ≤ length before → length (flagged n) ≡ length before
  flagged_length n h = omega (arith, length-append (flags_up_to n f) (drop n before), flags_length n f, length-drop n before)

  pub flagged_all : (n : ℕ) → length before ≤ n → flagged n ≡ flags_up_to n f
  flagged_all n h = rw (drop_of_length-le before h) (append-nil (flags_up_to n f))

-- what the next flag chooses
module _ {A : Type 0} where
  flag-append : (g : Bool) (z : A) (zs ws : List A) → with_flag g z (zs ++ ws) ≡ with_flag g z zs ++ ws
  unfolding with_flag
  flag-append true z zs ws = refl
  flag-append false z zs ws = refl

  pub chosen_append : (fs : List Bool) (xs : List A) (flag : Bool) (x : A) → length fs ≡ length xs → chosen (fs ++ (flag ∷ [])) (xs ++ (x ∷ [])) ≡ chosen fs xs ++ with_flag flag x []
  unfolding chosen with_flag
  chosen_append [] [] flag x e = refl
  chosen_append [] (y ∷ ys) flag x e = absurd (omega arith)
  chosen_append (f ∷ fs) [] flag x e = absurd (omega arith)
  chosen_append (f ∷ fs) (y ∷ ys) flag x e =
      ap (λ (zs : List A). with_flag f y zs) (chosen_append fs ys flag x (omega arith)) ∙ flag-append f y (chosen fs ys) (with_flag flag x [])

  pub chosen_next : (fs : List Bool) (xs : List A) (n : ℕ) (other : A) → n < length xs → length fs ≡ length xs
      → chosen (take (n + 1) fs) (take (n + 1) xs) ≡ chosen (take n fs) (take n xs) ++ with_flag (get_or fs n false) (get_or xs n other) []
  chosen_next fs xs n other h e =
      let l : length (take n fs) ≡ n = length-take-le n fs (omega arith) in
      let k : length (take n xs) ≡ n = length-take-le n xs (omega arith) in
      ap (λ (m : ℕ). chosen (take m fs) (take m xs)) (add-one n)
      ∙ ap₂ (λ (gs : List Bool) (ys : List A). chosen gs ys) (take-suc fs n false (omega arith)) (take-suc xs n other h)
      ∙ chosen_append (take n fs) (take n xs) (get_or fs n false) (get_or xs n other) (omega arith)

  module _ (fs : List Bool) (xs : List A) (n : ℕ) (other : A) (h : n < length xs) (e : length fs ≡ length xs) where
    pub chosen_taken : get_or fs n false ≡ true → chosen (take (n + 1) fs) (take (n + 1) xs) ≡ chosen (take n fs) (take n xs) ++ (get_or xs n other ∷ [])
    unfolding with_flag
    chosen_taken f = chosen_next fs xs n other h e ∙ rw f

    pub chosen_left : get_or fs n false ≡ false → chosen (take (n + 1) fs) (take (n + 1) xs) ≡ chosen (take n fs) (take n xs)
    unfolding with_flag
    chosen_left f = chosen_next fs xs n other h e ∙ rw (f, append-nil (chosen (take n fs) (take n xs)))

  chosen-nil : (fs : List Bool) → chosen {A = A} fs [] ≡ []
  unfolding chosen
  chosen-nil [] = refl
  chosen-nil (f ∷ fs) = refl

  -- what a front chooses stands at the front of what is chosen
  pub chosen_split : (n : ℕ) (fs : List Bool) (xs : List A) → chosen fs xs ≡ chosen (take n fs) (take n xs) ++ chosen (drop n fs) (drop n xs)
  unfolding chosen
  chosen_split zero fs xs = refl
  chosen_split (suc n) [] xs = refl
  chosen_split (suc n) (f ∷ fs) [] = sym (chosen-nil (drop n fs))
  chosen_split (suc n) (f ∷ fs) (x ∷ xs) =
      ap (λ (ys : List A). with_flag f x ys) (chosen_split n fs xs) ∙ flag-append f x (chosen (take n fs) (take n xs)) (chosen (drop n fs) (drop n xs))

  pub chosen_all : (fs : List Bool) (xs : List A) (n : ℕ) → n ≡ length xs → length fs ≡ length xs → chosen (take n fs) (take n xs) ≡ chosen fs xs
  chosen_all fs xs n e f = rw (take_all n fs (omega arith), take_all n xs (omega arith))

-- what holds of each holds of the chosen
pub each_chosen : {A : Type 0} (P : A → Type 0) (fs : List Bool) (xs : List A) → Each P xs → Each P (chosen fs xs)
unfolding chosen with_flag Each
each_chosen P [] xs h = tt
each_chosen P (f ∷ fs) [] h = tt
each_chosen P (true ∷ fs) (x ∷ xs) h = (h.0, each_chosen P fs xs h.1)
each_chosen P (false ∷ fs) (x ∷ xs) h = each_chosen P fs xs h.1

-- as many of one list as of another
pub chosen_length : {A B : Type 0} (fs : List Bool) (xs : List A) (ys : List B) → length xs ≡ length ys → length (chosen fs xs) ≡ length (chosen fs ys)
unfolding chosen with_flag
chosen_length [] xs ys e = refl
chosen_length (f ∷ fs) [] [] e = refl
chosen_length (f ∷ fs) [] (y ∷ ys) e = absurd (omega arith)
chosen_length (f ∷ fs) (x ∷ xs) [] e = absurd (omega arith)
chosen_length (true ∷ fs) (x ∷ xs) (y ∷ ys) e = ap suc (chosen_length fs xs ys (omega arith))
chosen_length (false ∷ fs) (x ∷ xs) (y ∷ ys) e = chosen_length fs xs ys (omega arith)

-- numbers up to a number
pub numbers_length : (n : ℕ) → length (numbers_up_to n) ≡ n
unfolding numbers_up_to
numbers_length zero = refl
numbers_length (suc n) = length-append (numbers_up_to n) (n ∷ []) ∙ omega (arith, numbers_length n)

pub number_at : (n i : ℕ) → i < n → get_or (numbers_up_to n) i 0 ≡ i
unfolding numbers_up_to
number_at zero i h = absurd (omega arith)
number_at (suc n) i h = by_cases (dec_lt i n) (λ k. number_at n i k)
  where
    by_cases : Dec (i < n) → (i < n → get_or (numbers_up_to n) i 0 ≡ i) → get_or (numbers_up_to n ++ (n ∷ [])) i 0 ≡ i
    by_cases (yes k) further = get_or-append (numbers_up_to n) (n ∷ []) 0 i (omega (arith, numbers_length n)) ∙ further k
    by_cases (no k) further =
        let z : i ≡ n = omega arith in
        rw z (get_or_at (numbers_up_to n) n [] 0 n (numbers_length n))
