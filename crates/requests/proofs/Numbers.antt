-- Digits and numbers in a line, one law for each outcome, with premises as the code has them.
use mathlib.Core.Path.{◌≡◌, refl, sym, ap, ◌∙◌}
use mathlib.Core.Bool.{Bool, true, false, cond}
use mathlib.Core.List.{List, [], ◌∷◌}
use Prim.Native.Nat.{ℕ, suc, ◌+◌, ◌*◌, ◌^◌, ◌≤◌, ◌<◌}
use native.Mathlib.Omega.{arith}
use lib.Dec.{eqb, ltb}
use lib.ListN.{length, drop, get_or, drop_of_length-le, length-drop}
use mir.Syntax.{w64}
use mir.Val.{Fits}
use borrow.Author.Tests.{lt-ltb, le-ltb, le-leb, lt-leb}
use Rattle.std.specs.Prelude.{Option, Some, None}
use Rattle.std.specs.Option.{SomeIff}
use Rattle.std.specs.Char.{digit_value}
use Rattle.std.proofs.lemmas.Bool.Decides.{nat_tests}
use Rattle.requests.specs.Pieces.{digit_of, up_to, piece_at, value_from, number_of, word_of, found, number_at, word_at}
use Rattle.requests.specs.declared.piece.Number.{Number}
use Rattle.text.proofs.Written.{from_place}

-- the bytes up to a mark are the first ones
front_long : (b : Bool) (c : ℕ) (ds cs : List ℕ) → length ds ≤ length cs → length (cond b [] (c ∷ ds)) ≤ suc (length cs)
front_long true c ds cs h = omega arith
front_long false c ds cs h = omega arith

pub front_length : (mark : ℕ) (cs : List ℕ) → length (up_to mark cs) ≤ length cs
unfolding up_to
front_length mark [] = omega arith
front_length mark (c ∷ cs) = front_long (eqb c mark) c (up_to mark cs) cs (front_length mark cs)

-- a digit
pub digit_same : (c : ℕ) → digit_of c ≡ cond (ltb (digit_value c) 16) (digit_value c) 16
unfolding digit_of
digit_same c = grind (arith, nat_tests)

small : (c d : ℕ) → d ≡ digit_value c → d < 16 → digit_of c ≡ d
small c d e h = digit_same c ∙ rw (← e, lt-ltb d 16 h)

large : (c d base : ℕ) → d ≡ digit_value c → base ≤ d → base ≤ 16 → base ≤ digit_of c
large c d base e h b = let s = digit_same c in rw (digit_same c, ← e) (by (ltb d 16))
  where
    by : (t : Bool) → base ≤ cond t d 16
    by true = h
    by false = b

pub digit_is : (c : ℕ) (o : Option ℕ) → SomeIff o (digit_value c < 16) (digit_value c) → SomeIff o (digit_of c < 16) (digit_of c)
digit_is c None n = λ h. let l = large c (digit_value c) 16 refl (omega (arith, n)) (omega arith) in omega (arith, l, h)
digit_is c (Some d) s = let e = small c (digit_value c) refl s.0 in (rw e s.0, s.1 ∙ sym e)

-- a number, digit by digit
pub nothing_said : (base : ℕ) (digits : List ℕ) {e : Bool} → e ≡ eqb (length digits) 0 → e ≡ true → None ≡ number_of base digits
unfolding number_of
nothing_said base [] ee t = refl
nothing_said base (c ∷ cs) ee t = let z : suc (length cs) ≡ 0 = zero_told (suc (length cs)) ee t in absurd (omega arith)
  where
    zero_told : (n : ℕ) {b : Bool} → b ≡ eqb n 0 → b ≡ true → n ≡ 0
    zero_told n e t = grind (arith, nat_tests)

is_number : (base : ℕ) (digits : List ℕ) {e : Bool} → e ≡ eqb (length digits) 0 → e ≡ false → value_from base 0 digits ≡ number_of base digits
unfolding number_of
is_number base [] ee f = let z : ◌≡◌ {A = Bool} true false = sym ee ∙ f in cc
is_number base (c ∷ cs) ee f = refl

module _ (base : ℕ) (digits : List ℕ) (b : base ≤ 16) {e : Bool} (ee : e ≡ eqb (length digits) 0) (ef : e ≡ false) {i : ℕ} (value : ℕ)
    (g : value_from base 0 digits ≡ value_from base value (drop i digits)) where
  pub number_over : length digits ≤ i → Some value ≡ number_of base digits
  unfolding value_from
  number_over h = sym (g ∙ rw (drop_of_length-le digits h)) ∙ is_number base digits ee ef

  module _ (h : i < length digits) {c : ℕ} (ec : c ≡ get_or digits i 0) where
    pub no_digit : (digit_value c < base → ⊥) → None ≡ number_of base digits
    unfolding value_from
    no_digit n =
        let l = large c (digit_value c) base refl (omega (arith, n)) b in
        sym (g ∙ rw (from_place digits i h, ← ec, le-leb base (digit_of c) l)) ∙ is_number base digits ee ef

    module _ {d : ℕ} (s : (digit_value c < base) × (d ≡ digit_value c)) where
      under : d < base
      under = omega (arith, s.0, s.1)

      said_there : digit_of c ≡ d
      said_there = small c d s.1 (omega (arith, under))

      larger : 4294967295 < value * base + d → None ≡ number_of base digits
      unfolding value_from
      larger l =
          sym (g ∙ rw (from_place digits i h, ← ec, said_there, lt-leb base d under, lt-ltb 4294967295 (value * base + d) l)) ∙ is_number base digits ee ef

      pub product_large : (value * base < 2 ^ 32 → ⊥) → None ≡ number_of base digits
      product_large n = larger (omega (arith, n))

      module _ {m : ℕ} (p : (value * base < 2 ^ 32) × (m ≡ value * base)) where
        pub sum_large : (m + d < 2 ^ 32 → ⊥) → None ≡ number_of base digits
        sum_large n = let l : 4294967295 < m + d = omega (arith, n) in larger (rw p.1 at l)

        pub digit_on : {v : ℕ} → (m + d < 2 ^ 32) × (v ≡ m + d) → value_from base 0 digits ≡ value_from base v (drop (i + 1) digits)
        unfolding value_from
        digit_on q =
            let l : value * base + d ≤ 4294967295 = let k : m + d ≤ 4294967295 = omega (arith, q.0) in rw p.1 at k in
            g ∙ rw (from_place digits i h, ← ec, said_there, lt-leb base d under, le-ltb 4294967295 (value * base + d) l, q.1, p.1)

-- what a piece says, by cases
pub found_none : (next : ℕ) (o : Option ℕ) → found next o ≡ None → o ≡ None
found_none next None e = refl
found_none next (Some v) e = cc

pub found_value : (next : ℕ) (o : Option ℕ) {n : Number} → found next o ≡ Some n → o ≡ Some n.value
found_value next None e = cc
found_value next (Some w) {n} e = let r : record { value = w; next = next } ≡ n = cc in rw (← r)

-- a number or a word, and what comes next
module _ (mark base : ℕ) (line : List ℕ) (at : ℕ) {own : List ℕ} (eo : own ≡ up_to mark (drop at line)) where
  pub no_number : None ≡ number_of base own → None ≡ number_at mark base line at
  unfolding number_at
  no_number e = rw (← eo, ← e)

  pub a_number : {v : ℕ} → Some v ≡ number_of base own → Some (record { value = v; next = at + length own + 1 }) ≡ number_at mark base line at
  unfolding number_at
  a_number e = rw (← eo, ← e)

module _ (line : List ℕ) (at : ℕ) {own : List ℕ} (eo : own ≡ piece_at line at) where
  pub no_word : None ≡ word_of own → None ≡ word_at line at
  unfolding word_at
  no_word e = rw (← eo, ← e)

  pub a_word : {v : ℕ} → Some v ≡ word_of own → Some (record { value = v; next = at + length own + 1 }) ≡ word_at line at
  unfolding word_at
  a_word e = rw (← eo, ← e)

pub word_long : (p : List ℕ) → 8 < length p → None ≡ word_of p
unfolding word_of
word_long p h = rw (lt-leb (length p) 8 h)

pub word_short : (p : List ℕ) → length p ≤ 8 → number_of 16 p ≡ word_of p
unfolding word_of
word_short p h = rw (le-leb (length p) 8 h)

-- a number stands within the line
module _ (said : List ℕ → Option ℕ) (empty : said [] ≡ None) (mark : ℕ) (line : List ℕ) (at : ℕ) {own : List ℕ} (eo : own ≡ up_to mark (drop at line)) {v : ℕ} (er : Some v ≡ said own) where
  pub said_within : at + length own ≤ length line
  said_within = by own er (rw eo (front_length mark (drop at line)))
    where
      by : (p : List ℕ) → Some v ≡ said p → length p ≤ length (drop at line) → at + length p ≤ length line
      by [] e h = let z : ◌≡◌ {A = Option ℕ} (Some v) None = e ∙ empty in cc
      by (c ∷ cs) e h = omega (arith, h, length-drop at line)

pub number_empty : (base : ℕ) → number_of base [] ≡ None
unfolding number_of
number_empty base = refl

pub word_empty : word_of [] ≡ None
unfolding word_of number_of
word_empty = refl

pub end_fits : (mark : ℕ) (line : List ℕ) (from : ℕ) {own : List ℕ} → own ≡ up_to mark (drop from line) → Fits w64 from → length line < 2 ^ 63 → Fits w64 (from + length own)
end_fits mark line from e f k = record { fits = omega (arith, f.fits, ap (λ (l : List ℕ). length l) e, front_length mark (drop from line), length-drop from line) }
