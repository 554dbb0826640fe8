-- Clauses by their names: one law for each outcome of the code, with premises as the code has them.
use mathlib.Core.Bool.{Bool, true, false}
use mathlib.Core.List.{List, [], ◌∷◌}
use mathlib.Core.Path.{◌≡◌, refl, sym, ◌∙◌}
use Rattle.std.specs.Prelude.{Some, None}
use Prim.Native.Nat.{ℕ, zero, suc, ◌+◌, ◌-◌, ◌≤◌, ◌<◌}
use native.Mathlib.Numerals.{add-one}
use native.Mathlib.Omega.{arith}
use lib.Dec.{ltb}
use lib.ListN.{length, take, drop, get_or, length-drop, length-map, get_or-map, drop_of_length-le}
use lib.Seq.{drop-cons, take_all}
use Rattle.names.specs.Numbers.{Name}
use Rattle.names.specs.Noting.{name_at, names_at}
use Rattle.requests.specs.Pieces.{same_bytes}
use Rattle.written_proofs.specs.Steps.{names_of, name_of, begins, stands, only_from}

many_names : (text places : List ℕ) → length (names_of text places) ≡ length places
many_names text places = length-map places (λ (at : ℕ). name_at text at)

named_at : (text places : List ℕ) (n : ℕ) → n < length places → name_of (names_of text places) n ≡ name_at text (get_or places n 0)
named_at text places n h = here (get_or-map (λ (at : ℕ). name_at text at) places n 0)
  where
    default : (names : List Name) (k : ℕ) → k < length names → (a b : Name) → get_or names k a ≡ get_or names k b
    default [] k l a b = absurd (omega (arith, l))
    default (x ∷ xs) zero l a b = refl
    default (x ∷ xs) (suc k) l a b = default xs k (omega (arith, l)) a b

    here : get_or (names_at text places) n (name_at text 0) ≡ name_at text (get_or places n 0) → name_of (names_at text places) n ≡ name_at text (get_or places n 0)
    here e = default (names_at text places) n (rw (many_names text places) h) [] (name_at text 0) ∙ e

module _ (text places : List ℕ) (n : ℕ) where
  from-name : n < length places → drop n (names_of text places) ≡ name_of (names_of text places) n ∷ drop (n + 1) (names_of text places)
  from-name h = rw (add-one, drop-cons (names_of text places) n [] (rw (many_names text places) h))

  no_more : length places ≤ n → drop n (names_of text places) ≡ []
  no_more h = let l : length (names_of text places) ≤ n = rw (many_names text places) h in drop_of_length-le (names_of text places) l

names_after : (text places : List ℕ) (n : ℕ) → names_of text (drop n places) ≡ drop n (names_of text places)
names_after text places zero = refl
names_after text [] (suc n) = refl
names_after text (p ∷ places) (suc n) = names_after text places n

-- how a name begins
pub begins_byte : (name : List ℕ) → 0 < length name → ltb 57 (get_or name 0 0) ≡ begins name
unfolding begins
begins_byte [] h = absurd (omega (arith, h))
begins_byte (c ∷ cs) h = refl

pub begins_not : (name : List ℕ) → length name ≤ 0 → ltb 0 (length name) ≡ begins name
unfolding begins
begins_not [] h = refl
begins_not (c ∷ cs) h = absurd (omega (arith, h))

-- a name among others
abbrev pub Standing : List ℕ → List ℕ → List ℕ → ℕ → Type 0
Standing text places own i = stands own (names_of text places) ≡ stands own (drop i (names_of text places))

-- the only clause with a name
abbrev pub Sought : List ℕ → List ℕ → List ℕ → ℕ → Type 0
Sought text places own i = only_from 0 own (names_of text places) ≡ only_from i own (drop i (names_of text places))

module _ (text places own : List ℕ) {i : ℕ} where
  pub stand_over : Standing text places own i → length places ≤ i → false ≡ stands own (names_of text places)
  unfolding stands
  stand_over g h = sym (g ∙ rw (no_more text places i h))

  pub seek_over : Sought text places own i → length places ≤ i → None ≡ only_from 0 own (names_of text places)
  unfolding only_from
  seek_over g h = sym (g ∙ rw (no_more text places i h))

  module _ (h : i < length places) {at : ℕ} (ea : at ≡ get_or places i 0) {n : List ℕ} (en : n ≡ name_at text at) {q : Bool} (eq : q ≡ same_bytes n own) where
    met : q ≡ same_bytes (name_of (names_of text places) i) own
    met = eq ∙ rw (en, ea, named_at text places i h)

    pub stand_met : Standing text places own i → q ≡ true → true ≡ stands own (names_of text places)
    unfolding stands
    stand_met g t = sym (g ∙ rw (from-name text places i h, ← met, t))

    pub stand_on : Standing text places own i → q ≡ false → Standing text places own (i + 1)
    unfolding stands
    stand_on g f = g ∙ rw (from-name text places i h, ← met, f)

    pub seek_on : Sought text places own i → q ≡ false → Sought text places own (i + 1)
    unfolding only_from
    seek_on g f = g ∙ rw (from-name text places i h, ← met, f, add-one)

    module _ (g : Sought text places own i) (t : q ≡ true) {s : Bool} (es : s ≡ stands own (names_of text (take (length places - (i + 1)) (drop (i + 1) places)))) where
      others : s ≡ stands own (drop (i + 1) (names_of text places))
      others = es ∙ rw (take_all (length places - (i + 1)) (drop (i + 1) places) (omega (arith, length-drop (i + 1) places)), names_after text places (i + 1))

      pub seek_several : s ≡ true → None ≡ only_from 0 own (names_of text places)
      unfolding only_from
      seek_several b = sym (g ∙ rw (from-name text places i h, ← met, t, ← others, b))

      pub seek_one : s ≡ false → Some i ≡ only_from 0 own (names_of text places)
      unfolding only_from
      seek_one b = sym (g ∙ rw (from-name text places i h, ← met, t, ← others, b))
