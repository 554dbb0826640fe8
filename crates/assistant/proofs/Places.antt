-- Lines, columns and bytes shown, one law for each outcome, with premises as the code has them.
use mathlib.Core.Path.{◌≡◌, refl, sym, ◌∙◌}
use mathlib.Core.Bool.{Bool, true, false, not}
use mathlib.Core.List.{List, [], ◌∷◌}
use mathlib.Core.Logic.{inl, inr}
use Prim.Native.Nat.{ℕ, suc, ◌+◌, ◌-◌, ◌≤◌, ◌<◌, min}
use native.Mathlib.Nat.{eq-or-lt_of_le}
use native.Mathlib.Omega.{arith, min_cases}
use lib.ListN.{length, drop, get_or, replicate, drop_of_length-le}
use borrow.Author.Tests.{eq-eqb, ne_eqb, lt-ltb, le-ltb}
use Rattle.text.specs.Put.{Put}
use Rattle.text.specs.Quoted.{bytes}
use Rattle.text.specs.Digits.{digits_of, significant, decimal_text}
use Rattle.text.proofs.Putting.{Left, begin, further, finish, then}
use Rattle.text.proofs.Written.{from_place}
use Rattle.clausetext.specs.Kinds.{kind_of, goes_on}
use Rattle.clausetext.specs.declared.kind.Kind.{Kind}
use Rattle.names.specs.Noting.{name_from}
use Rattle.assistant.specs.Place.{line_from, column_from, position_of, figure_text, shown_byte, shown_line, shown_before}

-- how far lines and columns have been counted
pub record Counting (before : List ℕ) (line column i : ℕ) : Type 0 where
  pub lines : line_from 1 before ≡ line_from line (drop i before)
  pub columns : column_from 1 before ≡ column_from column (drop i before)
  pub within : i ≤ length before
  pub few : line ≤ i + 1
  pub some : 1 ≤ column
  pub short : column ≤ i + 1

pub count_begin : (before : List ℕ) → Counting before 1 1 0
count_begin before =
    record { lines = refl; columns = refl; within = omega arith; few = omega arith; some = omega arith; short = omega arith }

module _ {before : List ℕ} {line column i : ℕ} (g : Counting before line column i) where
  module _ (h : i < length before) where
    pub count_line : get_or before i 0 ≡ 10 → Counting before (line + 1) 1 (i + 1)
    unfolding line_from column_from
    count_line e =
        record {
          lines = g.lines ∙ rw (from_place before i h, eq-eqb (get_or before i 0) 10 e);
          columns = g.columns ∙ rw (from_place before i h, eq-eqb (get_or before i 0) 10 e);
          within = omega arith;
          few = omega (arith, g.few);
          some = omega arith;
          short = omega arith;
        }

    pub count_column : (get_or before i 0 ≡ 10 → ⊥) → Counting before line (column + 1) (i + 1)
    unfolding line_from column_from
    count_column n =
        record {
          lines = g.lines ∙ rw (from_place before i h, ne_eqb (get_or before i 0) 10 n);
          columns = g.columns ∙ rw (from_place before i h, ne_eqb (get_or before i 0) 10 n);
          within = omega arith;
          few = omega (arith, g.few);
          some = omega arith;
          short = omega (arith, g.short);
        }

  pub position_is : length before ≤ i → record { line = line; column = column } ≡ position_of before
  unfolding line_from column_from
  position_is h =
      let l : line_from 1 before ≡ line = g.lines ∙ rw (drop_of_length-le before h) in
      let c : column_from 1 before ≡ column = g.columns ∙ rw (drop_of_length-le before h) in
      rw (l, c)

  pub some_column : 1 ≤ column
  some_column = g.some

  pub short_column : length before ≤ i → column ≤ length before + 1
  short_column h = omega (arith, g.short, g.within)

-- a number
full_text : decimal_text 4294967295 ≡ bytes "4294967295"
unfolding digits_of significant
full_text = refl

module _ {out left : List ℕ} {at next : ℕ} (n : ℕ) where
  figure_full : 4294967295 ≤ n → Put out at (decimal_text 4294967295) left next → Put out at (figure_text n) left next
  unfolding figure_text
  figure_full h p =
      elim (eq-or-lt_of_le h) [
        | inl e ↦ rw (← e) p
        | inr l ↦ rw (lt-ltb 4294967295 n l) (rw full_text at p)
      ]

  figure_small : n ≤ 4294967295 → Put out at (decimal_text n) left next → Put out at (figure_text n) left next
  unfolding figure_text
  figure_small h p = rw (le-ltb 4294967295 n h) p

  pub figure_is : {m : ℕ} → m ≡ min n 4294967295 → Put out at (decimal_text m) left next → Put out at (figure_text n) left next
  figure_is {m} e p =
      min_cases n 4294967295 (Put out at (figure_text n) left next)
      (λ h z. figure_small h (rw (e ∙ z) at p))
      (λ h z. figure_full h (rw (e ∙ z) at p))

-- a byte shown
pub shown_low : (c : ℕ) → c < 32 → 63 ≡ shown_byte c
unfolding shown_byte
shown_low c h = rw (lt-ltb c 32 h)

pub shown_high : (c : ℕ) → 32 ≤ c → 126 < c → 63 ≡ shown_byte c
unfolding shown_byte
shown_high c l h = rw (le-ltb c 32 l, lt-ltb 126 c h)

pub shown_plain : (c : ℕ) → 32 ≤ c → c ≤ 126 → c ≡ shown_byte c
unfolding shown_byte
shown_plain c l h = rw (le-ltb c 32 l, le-ltb 126 c h)

-- bytes shown up to the end of their line
module _ {first : List ℕ} {from : ℕ} {whole out : List ℕ} {at : ℕ} (own : List ℕ) (i : ℕ) (l : Left first from whole out at (shown_line (drop i own))) where
  pub show_over : length own ≤ i → Put first from whole out at
  unfolding shown_line
  show_over h = finish (rw (drop_of_length-le own h) at l)

  module _ (h : i < length own) where
    pub show_stops : get_or own i 0 ≡ 10 → Put first from whole out at
    unfolding shown_line
    show_stops e = finish (rw (from_place own i h, eq-eqb (get_or own i 0) 10 e) at l)

    pub show_more : (get_or own i 0 ≡ 10 → ⊥) → {b : ℕ} → b ≡ shown_byte (get_or own i 0) → {out' : List ℕ} {at' : ℕ} → Put out at (b ∷ []) out' at'
        → Left first from whole out' at' (shown_line (drop (i + 1) own))
    unfolding shown_line
    show_more n e p =
        further (shown_byte (get_or own i 0) ∷ []) (shown_line (drop (i + 1) own)) (rw (from_place own i h, ne_eqb (get_or own i 0) 10 n) at l) (rw e at p)

not_true : (q : Bool) → not q ≡ true → q ≡ false
not_true true e = sym e
not_true false e = refl

not_false : (q : Bool) → not q ≡ false → q ≡ true
not_false true e = refl
not_false false e = sym e

-- a name
module _ {first : List ℕ} {from : ℕ} {whole out : List ℕ} {at : ℕ} (own : List ℕ) (i : ℕ) (l : Left first from whole out at (name_from (drop i own))) where
  pub name_over : length own ≤ i → Put first from whole out at
  unfolding name_from
  name_over h = finish (rw (drop_of_length-le own h) at l)

  module _ (h : i < length own) {k : Kind} (ek : k ≡ kind_of (get_or own i 0)) {q : Bool} (e : q ≡ goes_on k) where
    pub name_stops : not q ≡ true → Put first from whole out at
    unfolding name_from
    name_stops f = finish (rw (from_place own i h, ← ek, sym e ∙ not_true q f) at l)

    pub name_more : not q ≡ false → {out' : List ℕ} {at' : ℕ} → Put out at (get_or own i 0 ∷ []) out' at'
        → Left first from whole out' at' (name_from (drop (i + 1) own))
    unfolding name_from
    name_more t p =
        further (get_or own i 0 ∷ []) (name_from (drop (i + 1) own)) (rw (from_place own i h, ← ek, sym e ∙ not_false q t) at l) p

-- blanks
blanks_left : (n i : ℕ) → i < n → ◌≡◌ {A = List ℕ} (replicate (n - i) 32) (32 ∷ replicate (n - (i + 1)) 32)
blanks_left n i h = let z : n - i ≡ suc (n - (i + 1)) = omega arith in rw z

module _ {first : List ℕ} {from : ℕ} {whole out : List ℕ} {at n i : ℕ} (l : Left first from whole out at (replicate (n - i) 32)) where
  pub blanks_more : i < n → {out' : List ℕ} {at' : ℕ} → Put out at (32 ∷ []) out' at' → Left first from whole out' at' (replicate (n - (i + 1)) 32)
  blanks_more h p = further (32 ∷ []) (replicate (n - (i + 1)) 32) (rw (blanks_left n i h) at l) p

  pub blanks_over : n ≤ i → Put first from whole out at
  blanks_over h = let z : n - i ≡ 0 = omega arith in finish (rw z at l)

-- how many bytes are shown before the place
pub before_few : (column : ℕ) → 1 ≤ column → column ≤ 41 → column - 1 ≡ shown_before column
before_few column l h = omega arith

pub before_many : (column : ℕ) → 41 < column → 40 ≡ shown_before column
before_many column h = omega arith

pub ruleset place_laws = (count_begin, count_line, count_column, position_is, some_column, short_column)

pub ruleset shown_laws = (shown_low, shown_high, shown_plain)

pub ruleset show_laws = (begin, show_over, show_stops, show_more)

pub ruleset name_laws = (begin, name_over, name_stops, name_more)

pub ruleset blank_laws = (begin, blanks_more, blanks_over)

pub ruleset before_laws = (before_few, before_many)
