-- The desk's file is written clause by clause at the front of its buffer, and sealed.
use lib.ListN.{length, drop, get_or, length-append, drop_of_length-le}
use mathlib.Core.Bool.{Bool, true, false}
use mathlib.Core.List.{List, [], ◌∷◌, ◌++◌, map, append_assoc, append-nil}
use mathlib.Core.Path.{◌≡◌, refl, sym, ◌∙◌, ap}
use native.Mathlib.Nat.{mod-eq_of_lt}
use native.Mathlib.Omega.{arith}
use Prim.Native.Nat.{ℕ, ◌+◌, ◌*◌, ◌/◌, ◌%◌, ◌^◌, ◌≤◌, ◌<◌}
use Rattle.words.specs.Fields.{function_word, literal_word, clause_word, variable_word}
use Rattle.table.specs.Build.{at_front, sealed}
use Rattle.table.specs.Encode.{clause_words, clauses_words, body_words, file_words}
use Rattle.table.specs.Syntax.{all_clauses}
use Rattle.table.proofs.Building.{more_behind, front_long, sealed_file, says_table}
use Rattle.desk.specs.Records.{Record, slot_of, records_of, words_in_range}
use Rattle.desk.specs.declared.Slot.{Slot}
use Rattle.desk.specs.declared.Slot.TheVariants.{Matinee as matinee, Evening as evening, Either as either}
use Rattle.desk.specs.Clauses.{clause_for, question, desk_table}
use Rattle.desk.specs.Asking.{Asked, Recordable, Writable, Puts, Fronts, record_of, records_words, single_words}
use Rattle.desk.proofs.Looking.{three_left, passed_on, passed_record, record_next}
use Rattle.desk.proofs.Words.{records_short, records_counted, question_length, body_words_lem, body_length, clauses_counted, file_within, clause_short, matinee_words, evening_words, either_words, matinee_question_words, evening_question_words, any_words}

-- the words of a clause with one literal, and of the two alternatives, as they are put together
module _ (day house : ℕ) {on place : ℕ} (d : on ≡ function_word day 0) (h : place ≡ function_word (1000 + house) 0) where
  pub single_words_lem : (variables : ℕ) (negative : Bool) {clause literal slot : ℕ} → variables ≤ 1 → clause ≡ clause_word false 1 (variables % 2 ^ 5) 4
      → literal ≡ literal_word negative 1 3 → clause ∷ literal ∷ on ∷ place ∷ slot ∷ [] ≡ single_words negative variables day house slot
  single_words_lem variables negative few c l =
      let v : variables % 2 ^ 5 ≡ variables = mod-eq_of_lt (omega arith) in
      rw (c, v, l, d, h)

  pub two_words : {clause literal one two : ℕ} → clause ≡ clause_word false 2 0 8 → literal ≡ literal_word false 1 3 → one ≡ function_word 2001 0
      → two ≡ function_word 2002 0 → clause ∷ literal ∷ on ∷ place ∷ one ∷ literal ∷ on ∷ place ∷ two ∷ [] ≡ clause_words (clause_for (record_of day house either))
  two_words c l m n = rw (c, l, d, h, m, n) (either_words day house)

module _ {file : List ℕ} {at next : ℕ} {after : List ℕ} where
  pub put_as : {words others : List ℕ} → words ≡ others → Puts file at words next after → Puts file at others next after
  put_as e p = rw e at p

  -- the clause of a record, and the question
  module _ (day house : ℕ) {slot : Slot} where
    pub put_either : slot ≡ either → Puts file at (clause_words (clause_for (record_of day house either))) next after
        → Puts file at (clause_words (clause_for (record_of day house slot))) next after
    put_either e p = rw e p

    pub put_any : {word : ℕ} → slot ≡ either → word ≡ variable_word 0 → Puts file at (single_words true 1 day house word) next after
        → Puts file at (clause_words (question day house slot)) next after
    put_any e w p = rw e (put_as (ap (λ (u : ℕ). single_words true 1 day house u) w ∙ any_words day house) p)

    module _ {word : ℕ} (m : slot ≡ matinee) (w : word ≡ function_word 2001 0) where
      pub put_matinee : Puts file at (single_words false 0 day house word) next after → Puts file at (clause_words (clause_for (record_of day house slot))) next after
      put_matinee p = rw m (put_as (ap (λ (u : ℕ). single_words false 0 day house u) w ∙ matinee_words day house) p)

      pub put_matinee_asked : Puts file at (single_words true 0 day house word) next after → Puts file at (clause_words (question day house slot)) next after
      put_matinee_asked p = rw m (put_as (ap (λ (u : ℕ). single_words true 0 day house u) w ∙ matinee_question_words day house) p)

    module _ {word : ℕ} (m : slot ≡ evening) (w : word ≡ function_word 2002 0) where
      pub put_evening : Puts file at (single_words false 0 day house word) next after → Puts file at (clause_words (clause_for (record_of day house slot))) next after
      put_evening p = rw m (put_as (ap (λ (u : ℕ). single_words false 0 day house u) w ∙ evening_words day house) p)

      pub put_evening_asked : Puts file at (single_words true 0 day house word) next after → Puts file at (clause_words (question day house slot)) next after
      put_evening_asked p = rw m (put_as (ap (λ (u : ℕ). single_words true 0 day house u) w ∙ evening_question_words day house) p)

pub ruleset put_laws = (put_either, put_any, put_matinee, put_evening, put_matinee_asked, put_evening_asked)

-- so many of the records have been written
pub record Writes (words buffer : List ℕ) (at i : ℕ) (file : List ℕ) : Type 0 where
  pub given : Recordable words buffer
  pub done : List ℕ
  pub stands : file ≡ at_front done buffer
  pub place : at ≡ length done
  pub rest : done ++ records_words (drop i words) ≡ records_words words
  pub right : words_in_range (drop i words) ≡ true
  pub room : at ≤ 3 * i
  pub within : i ≤ length words

pub write_begin : {words buffer : List ℕ} → Recordable words buffer → Writes words buffer 0 0 buffer
write_begin g = record { given = g; done = []; stands = refl; place = refl; rest = refl; right = g.intake.in_range; room = omega arith; within = omega arith }

module _ {words buffer : List ℕ} {at i : ℕ} {file : List ℕ} (g : Writes words buffer at i file) where
  pub file_long : length file ≡ 4509
  file_long = ap length g.stands ∙ front_long g.done buffer (omega (arith, g.place, g.room, g.within, g.given.intake.few)) ∙ g.given.long

  pub write_done : length words ≤ i → Fronts buffer (records_words words) at file
  unfolding records_words records_of clauses_words
  write_done h =
      let none : drop i words ≡ [] = drop_of_length-le words h in
      let e : g.done ≡ records_words words = sym (append-nil g.done) ∙ ap (λ (l : List ℕ). g.done ++ records_words l) (sym none) ∙ g.rest in
      record { counted = g.place ∙ ap length e; stands = g.stands ∙ ap (λ (ws : List ℕ). at_front ws buffer) e }

  module _ (h : i < length words) where
    abbrev next : Record
    next = record_of (get_or words i 0) (get_or words (i + 1) 0) (slot_of (get_or words (i + 2) 0))

    pub write_room : (at + 9 ≤ length file) × Asked (get_or words i 0) (get_or words (i + 1) 0)
    write_room = (omega (arith, file_long, g.room, g.given.intake.few), passed_record words i g.right h)

    pub three_more : i + 3 ≤ length words
    three_more = three_left words i g.right h

    next_words : records_words (drop i words) ≡ clause_words (clause_for next) ++ records_words (drop (i + 3) words)
    unfolding records_words clauses_words
    next_words = ap (λ (rs : List Record). clauses_words (map clause_for rs)) (record_next words i g.right h)

    pub write_next : {at' : ℕ} {file' : List ℕ} → Puts file at (clause_words (clause_for next)) at' file' → Writes words buffer at' (i + 3) file'
    write_next {at'} {file'} p =
        let cw = clause_words (clause_for next) in
        let short = clause_short (get_or words i 0) (get_or words (i + 1) 0) (slot_of (get_or words (i + 2) 0)) in
        record {
          given = g.given;
          done = g.done ++ cw;
          stands = p.stands ∙ rw (g.stands, g.place) (more_behind g.done cw buffer);
          place = p.next_place ∙ ap (λ (n : ℕ). n + length cw) g.place ∙ sym (length-append g.done cw);
          rest = append_assoc g.done cw (records_words (drop (i + 3) words)) ∙ ap (λ (ws : List ℕ). g.done ++ ws) (sym next_words) ∙ g.rest;
          right = passed_on words i g.right h;
          room = omega (arith, p.next_place, short, g.room);
          within = three_more;
        }

-- the whole file: the records' clauses, the question behind them, and the trailer
module _ (slot : Slot) {words : List ℕ} {day house : ℕ} {buffer : List ℕ} (w : Writable words day house buffer) where
  module _ {question-at : ℕ} {first : List ℕ} (f : Fronts buffer (records_words words) question-at first) where
    few_words : length (records_words words) ≤ 4500
    few_words = omega (arith, records_short words, w.records.intake.few)

    pub room_for_question : (question-at + 9 ≤ length first) × Asked day house
    room_for_question = (omega (arith, f.counted, ap length f.stands, front_long (records_words words) buffer (omega (arith, few_words, w.records.long)), few_words, w.records.long), w.asked)

    module _ {body : ℕ} {second : List ℕ} (p : Puts first question-at (clause_words (question day house slot)) body second) where
      body_end : body ≡ length (body_words (desk_table (records_of words) day house slot))
      body_end = omega (arith, f.counted, p.next_place, question_length day house slot, body_length words day house slot)

      body-stands : second ≡ at_front (body_words (desk_table (records_of words) day house slot)) buffer
      body-stands =
          p.stands ∙ rw (f.stands, f.counted) (more_behind (records_words words) (clause_words (question day house slot)) buffer)
          ∙ ap (λ (ws : List ℕ). at_front ws buffer) (sym (body_words_lem words day house slot))

      pub body_short : body ≤ 4505
      body_short = omega (arith, body_end, body_length words day house slot, few_words)

      clauses-right : length words / 3 + 1 ≡ length (all_clauses (desk_table (records_of words) day house slot))
      clauses-right = omega (arith, clauses_counted words day house slot, records_counted words w.records.intake.in_range)

      pub room_for_trailer : (body + 4 ≤ length second) × (body ≤ 16000) × (question-at ≤ 16000) × (length words / 3 + 1 ≤ 512)
      room_for_trailer = (
        omega (arith, body_short, ap length body-stands, front_long (body_words (desk_table (records_of words) day house slot)) buffer (omega (arith, body_short, body_end, w.records.long)), w.records.long),
        omega (arith, body_short),
        omega (arith, f.counted, few_words),
        omega (arith, w.records.intake.few),
      )

      pub file_written : {file : List ℕ} → file ≡ sealed second body question-at (length words / 3 + 1)
          → Fronts buffer (file_words (desk_table (records_of words) day house slot)) (body + 4) file
      unfolding desk_table records_words
      file_written e =
          record {
            counted = omega (arith, body_end, (says_table (desk_table (records_of words) day house slot) (file_within words day house slot w.records.intake w.asked.day_few w.asked.house_few) buffer).long);
            stands = e ∙ rw (body-stands, body_end, f.counted, clauses-right) (sealed_file (desk_table (records_of words) day house slot) buffer);
          }
