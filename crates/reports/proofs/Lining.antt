-- Records as lines of text, one law for each outcome, with premises as the code has them.
use mathlib.Core.Path.{◌≡◌, refl, sym, ap, ◌∙◌}
use mathlib.Core.Bool.{Bool, true, false, not, cond}
use mathlib.Core.List.{List, [], ◌∷◌}
use Prim.Native.Nat.{ℕ, suc, ◌+◌, ◌-◌, ◌^◌, ◌≤◌, ◌<◌}
use native.Mathlib.Omega.{arith}
use mir.Syntax.{w64}
use mir.Val.{Fits}
use lib.Dec.{eqb}
use lib.ListN.{length, take, drop, get_or, drop_of_length-le, length-drop}
use lib.Seq.{drop-drop}
use borrow.Author.Tests.{eq-eqb, ne_eqb, lt-ltb, le-ltb}
use Rattle.text.specs.Put.{Put}
use Rattle.text.specs.Quoted.{bytes}
use Rattle.text.proofs.Putting.{Left, begin, further, finish, then}
use Rattle.text.proofs.Written.{from_place}
use Rattle.requests.specs.Pieces.{up_to, decimal_at, same_bytes}
use Rattle.requests.specs.declared.piece.Number.{Number}
use Rattle.std.specs.Prelude.{Option, Some, None, Result, Ok, Err, ltb, ◌||◌}
use Rattle.std.specs.List.{position, position_or_len}
use Rattle.std.specs.Option.{unwrap_or}
use Rattle.std.proofs.lemmas.List.Recursion.{is_position_or_len}
use Rattle.std.proofs.lemmas.Bool.Decides.{nat_tests}
use Rattle.requests.proofs.Lists.{front_length, front_take}
use Rattle.reports.specs.Records.{is_blank, is_inked, ends_piece, blanks_in, piece_in, piece_start, piece_from, piece_bytes, number_up_to, slot_named, is_empty, number_at, slot_at, wrong, with_slot, said_slot, with_house, said_house, with_day, said_in, onto, lines_of, words_of, words_said, fault_or, first_fault}
use Rattle.reports.specs.declared.lines.Piece.{Piece}
use Rattle.reports.specs.declared.records.Wanted.{Wanted}
use Rattle.reports.specs.declared.records.Wanted.TheVariants.{Day, House, Slot, LineEnd}
use Rattle.reports.specs.declared.records.Fault.{Fault}
use Rattle.requests.specs.declared.records.Record.{Record}

-- past blanks, and past a piece
first_or_end : (n l : ℕ) → n ≤ l → unwrap_or (cond (ltb n l) (Some n) None) l ≡ n
first_or_end n l h = go (ltb n l) refl
  where
    go : (b : Bool) → ltb n l ≡ b → unwrap_or (cond b (Some n) None) l ≡ n
    go true e = refl
    go false e = grind (arith, nat_tests)

blanks_by : (q : Bool) (n m : ℕ) → n ≤ m → cond q (suc n) 0 ≤ suc m
blanks_by true n m h = omega (arith, h)
blanks_by false n m h = omega arith

blanks_long : (own : List ℕ) → blanks_in own ≤ length own
unfolding blanks_in
blanks_long [] = omega arith
blanks_long (c ∷ own) = blanks_by (is_blank c) (blanks_in own) (length own) (blanks_long own)

piece_by : (q : Bool) (n m : ℕ) → n ≤ m → cond q 0 (suc n) ≤ suc m
piece_by true n m h = omega arith
piece_by false n m h = omega (arith, h)

piece_long : (own : List ℕ) → piece_in own ≤ length own
unfolding piece_in
piece_long [] = omega arith
piece_long (c ∷ own) = piece_by (ends_piece c) (piece_in own) (length own) (piece_long own)

blanks_first : (line : List ℕ) → blanks_in line ≡ position_or_len is_inked line
unfolding blanks_in
blanks_first line = is_position_or_len blanks_in is_inked refl (λ c l. goes (is_blank c) (blanks_in l)) line
  where
    goes : (b : Bool) (n : ℕ) → cond b (suc n) 0 ≡ cond (not b) 0 (1 + n)
    goes true n = omega arith
    goes false n = refl

piece_first : (line : List ℕ) → piece_in line ≡ position_or_len ends_piece line
unfolding piece_in
piece_first line = is_position_or_len piece_in ends_piece refl (λ c l. goes (ends_piece c) (piece_in l)) line
  where
    goes : (b : Bool) (n : ℕ) → cond b 0 (suc n) ≡ cond b 0 (1 + n)
    goes true n = refl
    goes false n = omega arith

module _ (line : List ℕ) (from : ℕ) {tail : List ℕ} (e : tail ≡ drop from line) where
  module _ {first : Option ℕ} {n : ℕ} (u : n ≡ unwrap_or first (length tail)) where
    module _ (f : first ≡ position is_inked tail) where
      past-blanks : n ≡ blanks_in tail
      past-blanks = u ∙ rw (f, ← blanks_first tail) (first_or_end (blanks_in tail) (length tail) (blanks_long tail))

      pub skip_is : from + n ≡ from + blanks_in (drop from line)
      skip_is = rw (past-blanks, e)

      pub skip_fits : from < 2 ^ 64 → length line < 2 ^ 63 → Fits w64 (from + n)
      skip_fits h k =
          record { fits = omega (arith, past-blanks, blanks_long tail, ap (λ (l : List ℕ). length l) e, length-drop from line) }

    module _ (f : first ≡ position ends_piece tail) where
      past-piece : n ≡ piece_in tail
      past-piece = u ∙ rw (f, ← piece_first tail) (first_or_end (piece_in tail) (length tail) (piece_long tail))

      pub stop_is : from + n ≡ from + piece_in (drop from line)
      stop_is = rw (past-piece, e)

      pub stop_fits : from < 2 ^ 64 → length line < 2 ^ 63 → Fits w64 (from + n)
      stop_fits h k =
          record { fits = omega (arith, past-piece, piece_long tail, ap (λ (l : List ℕ). length l) e, length-drop from line) }

pub ruleset skip_laws = (skip_is, skip_fits)

pub ruleset stop_laws = (stop_is, stop_fits)

pub piece_is : (line : List ℕ) (from : ℕ) {start end : ℕ} → start ≡ from + blanks_in (drop from line) → end ≡ start + piece_in (drop start line)
    → record { start = start; end = end } ≡ piece_from line from
unfolding piece_from
piece_is line from es ee = rw (ee, es)

pub bytes_are : (line : List ℕ) (p : Piece) {upto own : List ℕ} → upto ≡ take p.end line → own ≡ drop p.start upto → own ≡ piece_bytes line p
bytes_are line p eu eo = eo ∙ rw eu

-- a number and a slot
module _ (own : List ℕ) (most : ℕ) {q : Option Number} (e : q ≡ decimal_at 32 own 0) where
  pub number_bad : q ≡ None → None ≡ number_up_to most own
  unfolding number_up_to
  number_bad b = rw (sym e ∙ b)

  module _ {n : Number} (v : q ≡ Some n) where
    pub number_zero : n.value ≡ 0 → None ≡ number_up_to most own
    unfolding number_up_to
    number_zero h = rw (sym e ∙ v, eq-eqb n.value 0 h)

    module _ (z : n.value ≡ 0 → ⊥) where
      pub number_large : most < n.value → None ≡ number_up_to most own
      unfolding number_up_to
      number_large h = rw (sym e ∙ v, ne_eqb n.value 0 z, lt-ltb most n.value h)

      pub number_fits : n.value ≤ most → Some n.value ≡ number_up_to most own
      unfolding number_up_to
      number_fits h = rw (sym e ∙ v, ne_eqb n.value 0 z, le-ltb most n.value h)

pub ruleset number_laws = (number_bad, number_zero, number_large, number_fits)

module _ (own : List ℕ) {a : Bool} (ea : a ≡ same_bytes own (bytes "matinee")) where
  pub slot_matinee : a ≡ true → Some 1 ≡ slot_named own
  unfolding slot_named
  slot_matinee t = rw (sym ea ∙ t)

  module _ (fa : a ≡ false) {b : Bool} (eb : b ≡ same_bytes own (bytes "evening")) where
    pub slot_evening : b ≡ true → Some 2 ≡ slot_named own
    unfolding slot_named
    slot_evening t = rw (sym ea ∙ fa, sym eb ∙ t)

    module _ (fb : b ≡ false) {c : Bool} (ec : c ≡ same_bytes own (bytes "either")) where
      pub slot_either : c ≡ true → Some 3 ≡ slot_named own
      unfolding slot_named
      slot_either t = rw (sym ea ∙ fa, sym eb ∙ fb, sym ec ∙ t)

      pub slot_none : c ≡ false → None ≡ slot_named own
      unfolding slot_named
      slot_none f = rw (sym ea ∙ fa, sym eb ∙ fb, sym ec ∙ f)

pub ruleset slot_laws = (slot_matinee, slot_evening, slot_either, slot_none)

-- a line, from its end backwards
module _ (line : List ℕ) (from : ℕ) {p : Piece} (ep : p ≡ piece_from line from) where
  module _ (day house : ℕ) {own : List ℕ} (eo : own ≡ piece_bytes line p) {named : Option ℕ} (es : named ≡ slot_named own) where
    pub slot_wrong : named ≡ None → {s : Result (Option Record) Fault} → s ≡ wrong p.start Slot → s ≡ said_slot line from day house
    unfolding said_slot
    slot_wrong h f = rw (← ep, ← eo, ← es, h, ← ep) f

    module _ {slot : ℕ} (hs : named ≡ Some slot) {e : Piece} (ee : e ≡ piece_from line p.end) where
      pub slot_last : e.start ≡ e.end → Ok (Some (record { day = day; house = house; slot = slot })) ≡ said_slot line from day house
      unfolding said_slot
      slot_last h = rw (← ep, ← eo, ← es, hs, ← ep, ← ee, eq-eqb e.start e.end h)

      pub slot_more : (e.start ≡ e.end → ⊥) → {s : Result (Option Record) Fault} → s ≡ wrong e.start LineEnd → s ≡ said_slot line from day house
      unfolding said_slot
      slot_more h f = rw (← ep, ← eo, ← es, hs, ← ep, ← ee, ne_eqb e.start e.end h) f

  module _ (day : ℕ) {own : List ℕ} (eo : own ≡ piece_bytes line p) {read : Option ℕ} (eh : read ≡ number_up_to 999 own) where
    pub house_wrong : read ≡ None → {s : Result (Option Record) Fault} → s ≡ wrong p.start House → s ≡ said_house line from day
    unfolding said_house
    house_wrong h f = rw (← ep, ← eo, ← eh, h, ← ep) f

    pub house_on : {house : ℕ} → read ≡ Some house → {s : Result (Option Record) Fault} → s ≡ said_slot line p.end day house → s ≡ said_house line from day
    unfolding said_house
    house_on h e = rw (← ep, ← eo, ← eh, h, ← ep) e

pub ruleset slot_line_laws = (slot_wrong, slot_last, slot_more)

pub ruleset house_line_laws = (house_wrong, house_on)

module _ (line : List ℕ) {p : Piece} (ep : p ≡ piece_from line 0) where
  pub line_empty : p.start ≡ p.end → Ok None ≡ said_in line
  unfolding said_in
  line_empty h = rw (← ep, eq-eqb p.start p.end h)

  module _ (hp : p.start ≡ p.end → ⊥) {own : List ℕ} (eo : own ≡ piece_bytes line p) {read : Option ℕ} (ed : read ≡ number_up_to 366 own) where
    pub day_wrong : read ≡ None → {s : Result (Option Record) Fault} → s ≡ wrong p.start Day → s ≡ said_in line
    unfolding said_in
    day_wrong h f = rw (← ep, ne_eqb p.start p.end hp, ← eo, ← ed, h, ← ep) f

    pub day_on : {day : ℕ} → read ≡ Some day → {s : Result (Option Record) Fault} → s ≡ said_house line p.end day → s ≡ said_in line
    unfolding said_in
    day_on h e = rw (← ep, ne_eqb p.start p.end hp, ← eo, ← ed, h, ← ep) e

pub ruleset day_line_laws = (line_empty, day_wrong, day_on)

-- a record put, or none
module _ {out : List ℕ} {at : ℕ} {s : Result (Option Record) Fault} where
  pub put_empty : {o : Option Record} → s ≡ Ok o → o ≡ None → Put out at (words_of s) out at
  unfolding words_of
  put_empty e f = rw (e, f) (finish (begin out at []))

  pub put_wrong : {fault : Fault} → s ≡ Err fault → Put out at (words_of s) out at
  unfolding words_of
  put_wrong e = rw e (finish (begin out at []))

  pub put_said : {o : Option Record} → s ≡ Ok o → {r : Record} → o ≡ Some r → {o₁ o₂ o₃ : List ℕ} {n₁ n₂ n₃ : ℕ} → Put out at (r.day ∷ []) o₁ n₁
      → Put o₁ n₁ (r.house ∷ []) o₂ n₂ → Put o₂ n₂ (r.slot ∷ []) o₃ n₃ → Put out at (words_of s) o₃ n₃
  unfolding words_of
  put_said e f p q r = rw (e, f) (then p (then q r))

-- the lines of a text
lines_by : (c : ℕ) (own : List ℕ) (q : Bool) → onto c (lines_of own) ≡ (c ∷ up_to 10 own) ∷ lines_of (drop (suc (length (up_to 10 own))) own)
    → cond q ([] ∷ lines_of own) (onto c (lines_of own))
    ≡ cond q [] (c ∷ up_to 10 own) ∷ lines_of (drop (suc (length (cond q [] (c ∷ up_to 10 own)))) (c ∷ own))
lines_by c own true e = refl
lines_by c own false e = e

onto_lines : (own : List ℕ) (c : ℕ) → onto c (lines_of own) ≡ (c ∷ up_to 10 own) ∷ lines_of (drop (suc (length (up_to 10 own))) own)
unfolding lines_of up_to
onto_lines [] c = refl
onto_lines (d ∷ own) c = ap (λ (ls : List (List ℕ)). onto c ls) (lines_by d own (eqb d 10) (onto_lines own d))

line_first : (c : ℕ) (own : List ℕ) → lines_of (c ∷ own) ≡ up_to 10 (c ∷ own) ∷ lines_of (drop (suc (length (up_to 10 (c ∷ own)))) (c ∷ own))
unfolding lines_of up_to
line_first c own = lines_by c own (eqb c 10) (onto_lines own c)

module _ (text : List ℕ) (at : ℕ) (h : at < length text) {end : ℕ} (e : end ≡ at + length (up_to 10 (drop at text))) where
  pub line_within : end ≤ length text
  line_within = omega (arith, e, front_length 10 (drop at text), length-drop at text)

  pub line_fits : length text < 2 ^ 63 → Fits w64 (end + 1)
  line_fits k = record { fits = omega (arith, line_within, k) }

  pub line_falls : length text - (end + 1) < length text - at
  line_falls = omega (arith, e, h)

  pub line_after : at ≤ end
  line_after = omega (arith, e)

  line_is : take (end - at) (drop at text) ≡ up_to 10 (drop at text)
  line_is = let z : end - at ≡ length (up_to 10 (drop at text)) = omega (arith, e) in rw z (front_take 10 (drop at text))

  lines-on : lines_of (drop at text) ≡ take (end - at) (drop at text) ∷ lines_of (drop (end + 1) text)
  lines-on =
      let first : lines_of (drop at text) ≡ up_to 10 (drop at text) ∷ lines_of (drop (suc (length (up_to 10 (drop at text)))) (drop at text)) =
      rw (from_place text at h) (line_first (get_or text at 0) (drop (at + 1) text)) in
      let z : at + suc (length (up_to 10 (drop at text))) ≡ end + 1 = omega (arith, e) in
      let later : drop (suc (length (up_to 10 (drop at text)))) (drop at text) ≡ drop (end + 1) text =
      drop-drop (suc (length (up_to 10 (drop at text)))) at text ∙ ap (λ (n : ℕ). drop n text) z in
      first ∙ rw (later, line_is)

  pub gather_more : {first : List ℕ} {from : ℕ} {whole out : List ℕ} {used : ℕ} → Left first from whole out used (words_said (lines_of (drop at text)))
      → {s : Result (Option Record) Fault} → s ≡ said_in (take (end - at) (drop at text)) → {out' : List ℕ} {used' : ℕ} → Put out used (words_of s) out' used'
      → Left first from whole out' used' (words_said (lines_of (drop (end + 1) text)))
  unfolding words_said
  gather_more l es p =
      further (words_of (said_in (take (end - at) (drop at text)))) (words_said (lines_of (drop (end + 1) text))) (rw lines-on at l) (rw es at p)

pub gather_over : (text : List ℕ) (at : ℕ) {first : List ℕ} {from : ℕ} {whole out : List ℕ} {used : ℕ}
    → Left first from whole out used (words_said (lines_of (drop at text))) → length text ≤ at → Put first from whole out used
unfolding words_said lines_of
gather_over text at l h = finish (rw (drop_of_length-le text h) at l)

pub ruleset gather_laws = (begin, line_within, line_fits, line_falls, line_after, gather_more, gather_over)

-- where a line goes wrong
abbrev Inside : Result (Option Record) Fault → ℕ → Type 0
Inside (Ok said) n = Unit {0}
Inside (Err fault) n = fault.place ≤ n

either_inside : (q : Bool) (s t : Result (Option Record) Fault) (n : ℕ) → Inside s n → Inside t n → Inside (cond q s t) n
either_inside true s t n a b = a
either_inside false s t n a b = b

module _ (line : List ℕ) (from : ℕ) (h : from ≤ length line) where
  start-inside : (piece_from line from).start ≤ length line
  unfolding piece_from
  start-inside = omega (arith, blanks_long (drop from line), length-drop from line)

  end_inside : (piece_from line from).end ≤ length line
  unfolding piece_from
  end_inside =
      omega (arith, blanks_long (drop from line), length-drop from line, piece_long (drop (piece_start line from) line), length-drop (piece_start line from) line)

slot_inside : (line : List ℕ) (from day house : ℕ) → from ≤ length line → Inside (said_slot line from day house) (length line)
unfolding said_slot
slot_inside line from day house h = by (slot_at line from)
  where
    by : (named : Option ℕ) → Inside (with_slot line from day house named) (length line)
    by (Some slot) =
        either_inside (is_empty (piece_from line (piece_from line from).end)) (Ok (Some (record { day = day; house = house; slot = slot })))
        (wrong (piece_from line (piece_from line from).end).start LineEnd) (length line) (tt {0})
        (start-inside line (piece_from line from).end (end_inside line from h))
    by None = start-inside line from h

house_inside : (line : List ℕ) (from day : ℕ) → from ≤ length line → Inside (said_house line from day) (length line)
unfolding said_house
house_inside line from day h = by (number_at 999 line from)
  where
    by : (read : Option ℕ) → Inside (with_house line from day read) (length line)
    by (Some house) = slot_inside line (piece_from line from).end day house (end_inside line from h)
    by None = start-inside line from h

said_inside : (line : List ℕ) → Inside (said_in line) (length line)
unfolding said_in
said_inside line =
    either_inside (is_empty (piece_from line 0)) (Ok None) (with_day line (number_at 366 line 0)) (length line) (tt {0}) (by (number_at 366 line 0))
  where
    by : (read : Option ℕ) → Inside (with_day line read) (length line)
    by (Some day) = house_inside line (piece_from line 0).end day (end_inside line 0 (omega arith))
    by None = start-inside line 0 (omega arith)

-- the first fault
pub record Faulty (text : List ℕ) (at : ℕ) : Type 0 where
  pub same : first_fault 0 (lines_of text) ≡ first_fault at (lines_of (drop at text))

pub fault_begin : (text : List ℕ) → Faulty text 0
fault_begin text = record { same = refl }

module _ {text : List ℕ} {at : ℕ} (g : Faulty text at) where
  pub fault_over : length text ≤ at → None ≡ first_fault 0 (lines_of text)
  unfolding first_fault lines_of
  fault_over h = sym (g.same ∙ rw (drop_of_length-le text h))

  module _ (h : at < length text) {end : ℕ} (e : end ≡ at + length (up_to 10 (drop at text))) {s : Result (Option Record) Fault} (es : s ≡ said_in (take (end - at) (drop at text))) where
    size : length (take (end - at) (drop at text)) ≡ end - at
    size = rw (line_is text at h e) (omega (arith, e))

    step : first_fault at (lines_of (drop at text)) ≡ fault_or at s (first_fault (end + 1) (lines_of (drop (end + 1) text)))
    unfolding first_fault
    step =
        let z : at + (end - at) + 1 ≡ end + 1 = omega (arith, e) in
        rw (lines-on text at h e, ← es, size, z)

    pub fault_wrong : {fault : Fault} → s ≡ Err fault → Some (record { place = at + fault.place; wanted = fault.wanted }) ≡ first_fault 0 (lines_of text)
    fault_wrong f = sym (g.same ∙ step ∙ rw f)

    pub fault_on : {said : Option Record} → s ≡ Ok said → Faulty text (end + 1)
    fault_on f = record { same = g.same ∙ step ∙ rw f }

    pub place_fits : {fault : Fault} → s ≡ Err fault → length text < 2 ^ 63 → Fits w64 (at + fault.place)
    place_fits {fault} f k =
        let inside : fault.place ≤ length (take (end - at) (drop at text)) = rw (sym es ∙ f) at (said_inside (take (end - at) (drop at text))) in
        record { fits = omega (arith, inside, size, line_within text at h e) }

pub ruleset fault_laws = (fault_begin, line_within, line_fits, line_falls, line_after, fault_over, fault_wrong, fault_on, place_fits)
