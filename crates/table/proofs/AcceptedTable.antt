-- What an accepted file says: a table within document 01's limits, as many clauses as the judgement says, the question where it says and all its
-- literals negative; and each clause by its number, also where the words of the whole file are read in place of its body's.
use mathlib.Core.Path.{◌≡◌, refl, sym, ap, ◌∙◌}
use mathlib.Core.Bool.{Bool, true, false, ◌||◌}
use mathlib.Core.List.{List, [], ◌∷◌}
use mathlib.Core.Option.{none}
use Prim.Native.Nat.{ℕ, zero, suc, ◌+◌, ◌-◌, ◌^◌, ◌≤◌, ◌<◌, min}
use native.Mathlib.Omega.{arith}
use lib.Dec.{eqb, leb}
use lib.ListN.{length, take, drop, get_or, length-take}
use lib.Seq.{get_or-take, drop-cons, take-take, take-nil, length-take-le}
use borrow.Author.Tests.{le-leb, eq-eqb, eqb-true, eqb-false, not-false}
use Rattle.words.specs.Fields.{kind_of, negative_of, following_of, restricted_of, clause_shaped}
use Rattle.table.specs.Syntax.{Clause, all_clauses}
use Rattle.table.specs.Reading.{clause_fits, clause_fault}
use Rattle.table.specs.Body.{last_of, positive, any_positive}
use Rattle.table.specs.File.{body_of, trailer, clause_starts, question_words, judge}
use Rattle.table.specs.Decode.{literals_from, clause_of, table_of}
use Rattle.table.specs.Limits.{Each, Within, Words, Readable}
use Rattle.table.proofs.Bools.{and_left, cond_none}
use Rattle.table.proofs.Accepted.{accepted}
use Rattle.table.proofs.Files.{body_length}
use Rattle.table.proofs.Bodies.{sound_fits}
use Rattle.table.proofs.Decoding.{literals_literal, literals_other}
use Rattle.table.proofs.BodyDecoding.{table_within, all_clauses_lem, clauses_count, each_take}
use Rattle.table.proofs.Positions.{words_from, StandsAt, stands_at, clause_by_number, question_by_start}

-- words of 32 bits, from what holds at every index
pub words_each : (ws : List ℕ) → ((i : ℕ) → get_or ws i 0 < 2 ^ 32) → Words ws
unfolding Each
words_each [] h = tt
words_each (w ∷ ws) h = (h 0, words_each ws (λ i. h (suc i)))

-- what is left of a front
drop_front : (n m : ℕ) (xs : List ℕ) → drop n (take m xs) ≡ take (m - n) (drop n xs)
drop_front zero m xs = let z : m - 0 ≡ m = omega arith in rw z
drop_front (suc n) zero xs = let z : 0 - suc n ≡ 0 = omega arith in rw z
drop_front (suc n) (suc m) [] = sym (take-nil (suc m - suc n))
drop_front (suc n) (suc m) (x ∷ xs) = let z : suc m - suc n ≡ m - n = omega arith in rw z (drop_front n m xs)

-- a clause with no fault has none where more words follow
more_words : (w m : ℕ) (ws : List ℕ) → clause_fault w (take m ws) ≡ none → clause_fault w ws ≡ none
unfolding clause_fault
more_words w m ws e =
    let parts = cond_none (clause_fits w (take m ws)) _ 0 e in
    let held : following_of w ≤ min m (length ws) = rw length-take at (sound_fits w (take m ws) e) in
    let shaped = and_left (clause_shaped w) (leb (following_of w) (length (take m ws))) parts.0 in
    let within : following_of w ≤ length ws = omega arith in
    let same : take (following_of w) (take m ws) ≡ take (following_of w) ws = take-take (following_of w) m ws (omega arith) in
    rw (shaped, le-leb (following_of w) (length ws) within, ← same) parts.1

-- no positive word, no positive literal
or_left : (a b : Bool) → (a || b) ≡ false → a ≡ false
or_left true b e = e
or_left false b e = refl

or_right : (a b : Bool) → (a || b) ≡ false → b ≡ false
or_right true b e = cc
or_right false b e = e

negative_word : (w : ℕ) → positive w ≡ false → kind_of w ≡ 2 → negative_of w ≡ true
negative_word w e k = not-false (negative_of w) (rw (eq-eqb (kind_of w) 2 k) at e)

literals_past : (w : ℕ) (ws : List ℕ) (b : Bool) → eqb (kind_of w) 2 ≡ b → positive w ≡ false → Each (λ l. l.negative ≡ true) (literals_from ws) → Each (λ l. l.negative ≡ true) (literals_from (w ∷ ws))
unfolding Each
literals_past w ws true k e h =
    let kind = eqb-true (kind_of w) 2 k in rw (literals_literal w ws kind) (negative_word w e kind, h)
literals_past w ws false k e h = rw (literals_other w ws (eqb-false (kind_of w) 2 k)) h

pub literals_negative : (ws : List ℕ) → any_positive ws ≡ false → Each (λ l. l.negative ≡ true) (literals_from ws)
unfolding any_positive literals_from Each
literals_negative [] e = tt
literals_negative (w ∷ ws) e =
    literals_past w ws (eqb (kind_of w) 2) refl (or_left (positive w) (any_positive ws) e) (literals_negative ws (or_right (positive w) (any_positive ws) e))

none_of_front : (n : ℕ) (ws : List ℕ) → any_positive ws ≡ false → any_positive (take n ws) ≡ false
unfolding any_positive
none_of_front zero ws e = refl
none_of_front (suc n) [] e = refl
none_of_front (suc n) (w ∷ ws) e =
    rw (or_left (positive w) (any_positive ws) e) (none_of_front n ws (or_right (positive w) (any_positive ws) e))

clause_negative : (ws : List ℕ) → any_positive ws ≡ false → Each (λ l. l.negative ≡ true) (clause_of ws).literals
unfolding any_positive clause_of Each
clause_negative [] e = tt
clause_negative (w ∷ ws) e = literals_negative ws (or_right (positive w) (any_positive ws) e)

-- a clause's mark is that of its own word
pub clause_mark : (body : List ℕ) (at : ℕ) → at < length body → (clause_of (words_from body at)).restricted ≡ restricted_of (get_or body at 0)
unfolding clause_of
clause_mark body at h = rw (drop-cons body at 0 h)

-- a clause that stands in the front of a list, read in the whole list
module _ (size : ℕ) (file : List ℕ) {at : ℕ} (long : size ≤ length file) (s : StandsAt (take size file) at) where
  size_is : length (take size file) ≡ size
  size_is = length-take-le size file long

  pub same_word : get_or (take size file) at 0 ≡ get_or file at 0
  same_word = get_or-take size file at 0 (omega (arith, s.inside, size_is))

  pub same_words_lem : words_from (take size file) at ≡ words_from file at
  same_words_lem =
      let fits = rw same_word at s.fits in
      rw (same_word, drop_front at size file) (take-take (suc (following_of (get_or file at 0))) (size - at) (drop at file) (omega (arith, size_is)))

  pub sound_in_file : clause_fault (get_or file at 0) (drop (at + 1) file) ≡ none
  sound_in_file =
      more_words (get_or file at 0) (size - (at + 1)) (drop (at + 1) file) (rw (same_word, drop_front (at + 1) size file) at s.sound)

module _ (file : List ℕ) (z : (judge file).status ≡ 0) where
  pub body_readable : Readable (body_of file)
  body_readable =
      let a = accepted file z in
      record { sound = a.sound; some = omega (arith, a.count, a.right.some); few = omega (arith, a.count, a.right.few) }

  pub clause_count : length (clause_starts file) ≡ (judge file).clauses
  clause_count = (accepted file z).count ∙ sym (accepted file z).clauses

  pub question_start : last_of 0 (clause_starts file) ≡ (judge file).question
  question_start = (accepted file z).last ∙ sym (accepted file z).question

  -- the clause of a number
  module _ (number : ℕ) (h : number < (judge file).clauses) where
    pub clause_stands : StandsAt (body_of file) (get_or (clause_starts file) number 0)
    clause_stands = stands_at (body_of file) number (accepted file z).sound (omega (arith, clause_count))

    pub clause_words_in_file : words_from (body_of file) (get_or (clause_starts file) number 0) ≡ words_from file (get_or (clause_starts file) number 0)
    clause_words_in_file = same_words_lem (length file - 4) file (omega arith) clause_stands

    pub clause_sound_in_file : clause_fault (get_or file (get_or (clause_starts file) number 0) 0) (drop (get_or (clause_starts file) number 0 + 1) file) ≡ none
    clause_sound_in_file = sound_in_file (length file - 4) file (omega arith) clause_stands

    pub clause_numbered : (other : Clause) → get_or (all_clauses (table_of (body_of file))) number other ≡ clause_of (words_from file (get_or (clause_starts file) number 0))
    clause_numbered other =
        ap (λ (cs : List Clause). get_or cs number other) (all_clauses_lem (body_of file) body_readable.some)
        ∙ clause_by_number (body_of file) number other (omega (arith, clause_count))
        ∙ ap (λ (ws : List ℕ). clause_of ws) clause_words_in_file

  -- the table
  pub question_words_lem : (table_of (body_of file)).question ≡ clause_of (words_from (body_of file) (judge file).question)
  question_words_lem = question_by_start (body_of file) body_readable.some ∙ ap (λ (n : ℕ). clause_of (words_from (body_of file) n)) question_start

  pub question_negative : Each (λ l. l.negative ≡ true) (table_of (body_of file)).question.literals
  question_negative =
      let a = accepted file z in
      rw (question_words_lem, a.question) (clause_negative _ (none_of_front (suc (following_of (get_or (body_of file) (trailer file 0) 0))) (question_words file) a.negative))

  pub question_unmarked : (table_of (body_of file)).question.restricted ≡ false
  question_unmarked =
      let a = accepted file z in
      let inside : trailer file 0 < length file - 4 = omega (arith, a.right.below, a.right.whole) in
      let own : get_or (body_of file) (trailer file 0) 0 ≡ get_or file (trailer file 0) 0 = get_or-take (length file - 4) file (trailer file 0) 0 inside in
      rw (question_words_lem, a.question)
      (clause_mark (body_of file) (trailer file 0) (omega (arith, inside, body_length file)) ∙ ap (λ (w : ℕ). restricted_of w) own ∙ a.unmarked)

  pub body_words_lem : Words file → Words (body_of file)
  body_words_lem small = each_take (λ (w : ℕ). w < 2 ^ 32) (length file - 4) file small

  pub accepted_within : Within (table_of (body_of file))
  accepted_within = table_within (body_of file) body_readable

  pub accepted_count : length (all_clauses (table_of (body_of file))) ≡ (judge file).clauses
  accepted_count =
      ap (λ (cs : List Clause). length cs) (all_clauses_lem (body_of file) body_readable.some) ∙ clauses_count (body_of file) ∙ clause_count
