-- The words of the desk's clauses, and that its table is within document 01's limits.
use lib.ListN.{length, length-append, length-map}
use mathlib.Core.Bool.{Bool, true, false}
use mathlib.Core.List.{List, [], ◌∷◌, ◌++◌, map}
use mathlib.Core.Path.{◌≡◌, refl, ◌∙◌, ap}
use native.Mathlib.Omega.{arith}
use Prim.Native.Nat.{ℕ, zero, suc, ◌+◌, ◌*◌, ◌≤◌}
use Rattle.words.specs.Fields.{function_word, literal_word, clause_word, variable_word}
use Rattle.table.specs.Encode.{term_words, literal_words, literals_words, clause_words, clauses_words, body_words}
use Rattle.table.specs.Limits.{TermWithin, LiteralWithin, Each, ClauseWithin, FileWithin}
use Rattle.table.specs.Syntax.{arity, Literal, Clause, all_clauses}
use Rattle.table.proofs.Building.{clauses_snoc}
use Rattle.desk.specs.Records.{slot_of, records_of, record_in_range, words_in_range}
use Rattle.desk.specs.declared.Slot.{Slot}
use Rattle.desk.specs.declared.Slot.TheVariants.{Matinee as matinee, Evening as evening, Either as either}
use Rattle.desk.specs.Clauses.{at_literal, constant, alternatives, clause_for, asked_slot, asked_variables, question, desk_table}
use Rattle.desk.specs.Asking.{Intake, record_of, records_words, single_words}
use Rattle.desk.proofs.Looking.{in_range_asked}
use Rattle.desk.proofs.Bools.{never, and_left, and_right}

unfoldable opened : Unit {0}
unfolding term_words literal_words literals_words clause_words arity clause_for alternatives question asked_slot asked_variables slot_of
opened = tt

-- a fact, the two alternatives, and the three questions
pub matinee_words : (day house : ℕ) → single_words false 0 day house (function_word 2001 0) ≡ clause_words (clause_for (record_of day house matinee))
unfolding opened
matinee_words day house = refl

pub evening_words : (day house : ℕ) → single_words false 0 day house (function_word 2002 0) ≡ clause_words (clause_for (record_of day house evening))
unfolding opened
evening_words day house = refl

pub either_words : (day house : ℕ)
    → clause_word false 2 0 8 ∷ literal_word false 1 3 ∷ function_word day 0 ∷ function_word (1000 + house) 0 ∷ function_word 2001 0
    ∷ literal_word false 1 3 ∷ function_word day 0 ∷ function_word (1000 + house) 0 ∷ function_word 2002 0 ∷ [] ≡ clause_words (clause_for (record_of day house either))
unfolding opened
either_words day house = refl

pub matinee_question_words : (day house : ℕ) → single_words true 0 day house (function_word 2001 0) ≡ clause_words (question day house matinee)
unfolding opened
matinee_question_words day house = refl

pub evening_question_words : (day house : ℕ) → single_words true 0 day house (function_word 2002 0) ≡ clause_words (question day house evening)
unfolding opened
evening_question_words day house = refl

pub any_words : (day house : ℕ) → single_words true 1 day house (variable_word 0) ≡ clause_words (question day house either)
unfolding opened
any_words day house = refl

-- a record's clause has nine words at most, a question five
pub clause_short : (d h : ℕ) (s : Slot) → length (clause_words (clause_for (record { day = d; house = h; slot = s }))) ≤ 9
unfolding opened
clause_short d h matinee = omega arith
clause_short d h evening = omega arith
clause_short d h either = omega arith

pub question_length : (day house : ℕ) (s : Slot) → length (clause_words (question day house s)) ≡ 5
unfolding opened
question_length day house matinee = refl
question_length day house evening = refl
question_length day house either = refl

pub records_short : (ws : List ℕ) → length (records_words ws) ≤ 3 * length ws
unfolding records_words records_of clauses_words
records_short [] = omega arith
records_short (a ∷ []) = omega arith
records_short (a ∷ b ∷ []) = omega arith
records_short (a ∷ b ∷ c ∷ ws) =
    omega (arith, length-append (clause_words (clause_for (record_of a b (slot_of c)))) (clauses_words (map clause_for (records_of ws))), clause_short a b (slot_of c), records_short ws)

pub records_counted : (ws : List ℕ) → words_in_range ws ≡ true → 3 * length (records_of ws) ≡ length ws
unfolding records_of words_in_range
records_counted [] e = refl
records_counted (a ∷ []) e = never e
records_counted (a ∷ b ∷ []) e = never e
records_counted (a ∷ b ∷ c ∷ ws) e =
    omega (arith, records_counted ws (and_right (record_in_range a b c) (words_in_range ws) e))

-- within the limits
module _ {d h : ℕ} (few : d ≤ 366) (houses : h ≤ 999) where
  literal_within : (b : Bool) (n : ℕ) → n ≤ 2002 → LiteralWithin 0 (at_literal b d h (constant n))
  unfolding arity TermWithin
  literal_within b n l =
      record {
        predicate = omega arith;
        arity = omega arith;
        arguments = ((omega arith, omega arith, tt), ((omega arith, omega arith, tt), ((omega arith, omega arith, tt), tt)));
      }

  clause_within : (s : Slot) → ClauseWithin (clause_for (record { day = d; house = h; slot = s }))
  unfolding opened Each
  clause_within matinee = record { some = omega arith; few = omega arith; variables = omega arith; follow = omega arith; literals = (literal_within false 2001 (omega arith), tt) }
  clause_within evening = record { some = omega arith; few = omega arith; variables = omega arith; follow = omega arith; literals = (literal_within false 2002 (omega arith), tt) }
  clause_within either = record { some = omega arith; few = omega arith; variables = omega arith; follow = omega arith; literals = (literal_within false 2001 (omega arith), (literal_within false 2002 (omega arith), tt)) }

  question_within : (s : Slot) → ClauseWithin (question d h s)
  unfolding opened Each TermWithin
  question_within matinee = record { some = omega arith; few = omega arith; variables = omega arith; follow = omega arith; literals = (literal_within true 2001 (omega arith), tt) }
  question_within evening = record { some = omega arith; few = omega arith; variables = omega arith; follow = omega arith; literals = (literal_within true 2002 (omega arith), tt) }
  question_within either =
      record {
        some = omega arith;
        few = omega arith;
        variables = omega arith;
        follow = omega arith;
        literals = (record { predicate = omega arith; arity = omega arith; arguments = ((omega arith, omega arith, tt), ((omega arith, omega arith, tt), (omega arith, tt))) }, tt);
      }

  question_negative : (s : Slot) → Each (λ (l : Literal ℕ). l.negative ≡ true) (question d h s).literals
  unfolding question Each
  question_negative s = (refl, tt)

  question_unmarked : (s : Slot) → (question d h s).restricted ≡ false
  unfolding question
  question_unmarked s = refl

each_snoc : (cs : List Clause) (c : Clause) → Each ClauseWithin cs → ClauseWithin c → Each ClauseWithin (cs ++ (c ∷ []))
unfolding Each
each_snoc [] c h k = (k, tt)
each_snoc (b ∷ cs) c h k = (h.0, each_snoc cs c h.1 k)

records_within : (ws : List ℕ) → words_in_range ws ≡ true → Each ClauseWithin (map clause_for (records_of ws))
unfolding records_of words_in_range Each
records_within [] e = tt
records_within (a ∷ []) e = never e
records_within (a ∷ b ∷ []) e = never e
records_within (a ∷ b ∷ c ∷ ws) e =
    let r = in_range_asked a b c (and_left (record_in_range a b c) (words_in_range ws) e) in
    (clause_within r.day_few r.house_few (slot_of c), records_within ws (and_right (record_in_range a b c) (words_in_range ws) e))

-- the words of the desk's body
pub body_words_lem : (ws : List ℕ) (day house : ℕ) (s : Slot)
    → body_words (desk_table (records_of ws) day house s) ≡ records_words ws ++ clause_words (question day house s)
unfolding body_words desk_table all_clauses records_words
body_words_lem ws day house s = clauses_snoc (map clause_for (records_of ws)) (question day house s)

pub body_length : (ws : List ℕ) (day house : ℕ) (s : Slot) → length (body_words (desk_table (records_of ws) day house s)) ≡ length (records_words ws) + 5
body_length ws day house s =
    ap length (body_words_lem ws day house s) ∙ length-append (records_words ws) (clause_words (question day house s)) ∙ ap (λ (n : ℕ). length (records_words ws) + n) (question_length day house s)

pub clauses_counted : (ws : List ℕ) (day house : ℕ) (s : Slot) → length (all_clauses (desk_table (records_of ws) day house s)) ≡ length (records_of ws) + 1
unfolding desk_table all_clauses
clauses_counted ws day house s =
    length-append (map clause_for (records_of ws)) (question day house s ∷ []) ∙ ap (λ (n : ℕ). n + 1) (length-map (records_of ws) clause_for)

-- the file is always accepted
pub file_within : (ws : List ℕ) (day house : ℕ) (s : Slot) → Intake ws → day ≤ 366 → house ≤ 999 → FileWithin (desk_table (records_of ws) day house s)
unfolding desk_table all_clauses
file_within ws day house s i d h =
    record {
      table = record {
        few = omega (arith, clauses_counted ws day house s, records_counted ws i.in_range, i.few);
        clauses = each_snoc (map clause_for (records_of ws)) (question day house s) (records_within ws i.in_range) (question_within d h s);
      };
      question = question_negative d h s;
      unmarked = question_unmarked d h s;
      short = omega (arith, body_length ws day house s, records_short ws, i.few);
    }
