-- The first look at the words: three by three, and what is known of them once they have passed.
use borrow.Author.Tests.{not-true, not-false, leb-true, eqb-true, lt-leb, le-leb, eq-eqb, ne_eqb}
use lib.Dec.{eqb, leb}
use lib.ListN.{length, drop, get_or, length-drop}
use lib.Seq.{drop-cons}
use mathlib.Core.Bool.{Bool, true, false, not, ◌&&◌}
use mathlib.Core.List.{List, [], ◌∷◌}
use mathlib.Core.Path.{◌≡◌, refl, sym, ◌∙◌, ap}
use native.Mathlib.Omega.{arith}
use Prim.Native.Nat.{ℕ, zero, suc, ◌+◌, ◌-◌, ◌≤◌, ◌<◌}
use Rattle.desk.specs.Records.{Record, slot_of, records_of, between, day_in_range, house_in_range, record_in_range, words_in_range, acceptable}
use Rattle.desk.specs.Desk.{is_of}
use Rattle.desk.specs.Asking.{Intake, Asked, record_of}
use Rattle.desk.proofs.Bools.{never, and_left, and_right}

-- a record of that day and house, and one that is not
pub is_of_lem : (day house : ℕ) (r : Record) → is_of day house r ≡ true → (r.day ≡ day) × (r.house ≡ house)
unfolding is_of
is_of_lem day house r e = (
  eqb-true r.day day (and_left (eqb r.day day) (eqb r.house house) e),
  eqb-true r.house house (and_right (eqb r.day day) (eqb r.house house) e),
)

pub is_not_of : (day house : ℕ) (r : Record) → is_of day house r ≡ false → r.day ≡ day → r.house ≡ house → ⊥
unfolding is_of
is_not_of day house r e p q = never (sym e ∙ rw (eq-eqb r.day day p, eq-eqb r.house house q))

-- a test that is turned about: `if !f(..)`
so_false : {q b : Bool} → q ≡ b → not q ≡ true → b ≡ false
so_false {q} e n = sym e ∙ not-true q n

so_true : {q b : Bool} → q ≡ b → not q ≡ false → b ≡ true
so_true {q} e n = sym e ∙ not-false q n

-- a record in range
pub in_range_asked : (day house slot : ℕ) → record_in_range day house slot ≡ true → Asked day house
unfolding record_in_range
in_range_asked day house slot e =
    let both = and_left (between 1 366 day && between 1 999 house) (between 1 3 slot) e in
    let first = and_left (between 1 366 day) (between 1 999 house) both in
    let second = and_right (between 1 366 day) (between 1 999 house) both in
    record {
      day_few = leb-true day 366 (and_right (leb 1 day) (leb day 366) first);
      house_few = leb-true house 999 (and_right (leb 1 house) (leb house 999) second);
    }

-- the next three words
module _ (ws : List ℕ) where
  next : (i j : ℕ) → i + 1 ≡ j → i < length ws → drop i ws ≡ get_or ws i 0 ∷ drop j ws
  next i j e h =
      let n : suc i ≡ j = omega arith in
      drop-cons ws i 0 h ∙ ap (λ (n : ℕ). get_or ws i 0 ∷ drop n ws) n

  pub next_three : (i : ℕ) → i + 3 ≤ length ws → drop i ws ≡ get_or ws i 0 ∷ get_or ws (i + 1) 0 ∷ get_or ws (i + 2) 0 ∷ drop (i + 3) ws
  next_three i h =
      next i (i + 1) refl (omega arith)
      ∙ ap (λ (l : List ℕ). get_or ws i 0 ∷ l)
      (next (i + 1) (i + 2) (omega arith) (omega arith) ∙ ap (λ (l : List ℕ). get_or ws (i + 1) 0 ∷ l) (next (i + 2) (i + 3) (omega arith) (omega arith)))

-- the record that three words make is in range
abbrev right_at : List ℕ → ℕ → Bool
right_at ws i = record_in_range (get_or ws i 0) (get_or ws (i + 1) 0) (get_or ws (i + 2) 0)

right_then : (ws : List ℕ) (i : ℕ) → i + 3 ≤ length ws → words_in_range (drop i ws) ≡ right_at ws i && words_in_range (drop (i + 3) ws)
unfolding words_in_range
right_then ws i h = rw (next_three ws i h)

-- the look goes on from a place, with the whole's judgement
pub record Looks (ws : List ℕ) (i : ℕ) : Type 0 where
  pub within : i ≤ length ws
  pub whole : words_in_range ws ≡ words_in_range (drop i ws)

pub look_begin : (ws : List ℕ) → Looks ws 0
look_begin ws = record { within = omega arith; whole = refl }

left_over : (rest : List ℕ) → length rest < 3 → words_in_range rest ≡ eqb (length rest) 0
unfolding words_in_range
left_over [] h = refl
left_over (a ∷ []) h = refl
left_over (a ∷ b ∷ []) h = refl
left_over (a ∷ b ∷ c ∷ rest) h = absurd (omega arith)

module _ {ws : List ℕ} {i : ℕ} (g : Looks ws i) where
  pub look_on : {q : Bool} → 3 ≤ length ws - i → q ≡ right_at ws i → not q ≡ false → Looks ws (i + 3)
  look_on h e n = record { within = omega arith; whole = g.whole ∙ right_then ws i (omega arith) ∙ rw (so_true e n) }

  pub look_stop : {q : Bool} → 3 ≤ length ws - i → q ≡ right_at ws i → not q ≡ true → false ≡ words_in_range ws
  look_stop h e n = sym (g.whole ∙ right_then ws i (omega arith) ∙ rw (so_false e n))

  pub look_end : length ws - i < 3 → eqb i (length ws) ≡ words_in_range ws
  look_end h = sym (g.whole ∙ left_over (drop i ws) (omega (arith, length-drop i ws)) ∙ rw (length-drop i ws) (go (length ws - i) refl))
    where
      go : (n : ℕ) → length ws - i ≡ n → eqb n 0 ≡ eqb i (length ws)
      go zero e = sym (eq-eqb i (length ws) (omega (arith, g.within)))
      go (suc n) e = ne_eqb (suc n) 0 (λ d. omega arith) ∙ sym (ne_eqb i (length ws) (λ d. omega arith))

pub ruleset look_laws = (look_begin, look_on, look_stop, look_end)

-- words that have passed: three at least are left where any is, and the record that they make is in range
three_or_none : (rest : List ℕ) → words_in_range rest ≡ true → 0 < length rest → 3 ≤ length rest
unfolding words_in_range
three_or_none [] e l = absurd (omega arith)
three_or_none (a ∷ []) e l = never e
three_or_none (a ∷ b ∷ []) e l = never e
three_or_none (a ∷ b ∷ c ∷ rest) e l = omega arith

module _ (ws : List ℕ) (i : ℕ) (passed : words_in_range (drop i ws) ≡ true) (h : i < length ws) where
  pub three_left : i + 3 ≤ length ws
  three_left = omega (arith, three_or_none (drop i ws) passed (omega (arith, length-drop i ws)), length-drop i ws)

  both : right_at ws i && words_in_range (drop (i + 3) ws) ≡ true
  both = sym (right_then ws i three_left) ∙ passed

  pub passed_on : words_in_range (drop (i + 3) ws) ≡ true
  passed_on = and_right (right_at ws i) (words_in_range (drop (i + 3) ws)) both

  pub passed_record : Asked (get_or ws i 0) (get_or ws (i + 1) 0)
  passed_record = in_range_asked _ _ (get_or ws (i + 2) 0) (and_left (right_at ws i) (words_in_range (drop (i + 3) ws)) both)

  pub record_next : records_of (drop i ws) ≡ record_of (get_or ws i 0) (get_or ws (i + 1) 0) (slot_of (get_or ws (i + 2) 0)) ∷ records_of (drop (i + 3) ws)
  unfolding records_of
  record_next = rw (next_three ws i three_left)

-- what is known once everything was acceptable
module _ (ws : List ℕ) (day house : ℕ) (a : acceptable ws day house ≡ true) where
  numbers : day_in_range day && house_in_range house && leb (length ws) 1500 ≡ true
  unfolding acceptable
  numbers = and_left (day_in_range day && house_in_range house && leb (length ws) 1500) (words_in_range ws) a

  ranges : day_in_range day && house_in_range house ≡ true
  ranges = and_left (day_in_range day && house_in_range house) (leb (length ws) 1500) numbers

  pub accepted_words : Intake ws
  unfolding acceptable
  accepted_words =
      record {
        few = leb-true (length ws) 1500 (and_right (day_in_range day && house_in_range house) (leb (length ws) 1500) numbers);
        in_range = and_right (day_in_range day && house_in_range house && leb (length ws) 1500) (words_in_range ws) a;
      }

  pub accepted_question : Asked day house
  accepted_question =
      record {
        day_few = leb-true day 366 (and_right (leb 1 day) (leb day 366) (and_left (day_in_range day) (house_in_range house) ranges));
        house_few = leb-true house 999 (and_right (leb 1 house) (leb house 999) (and_right (day_in_range day) (house_in_range house) ranges));
      }

pub may_ask : (ws : List ℕ) (day house : ℕ) → acceptable ws day house ≡ true → Intake ws × Asked day house
may_ask ws day house a = (accepted_words ws day house a, accepted_question ws day house a)
