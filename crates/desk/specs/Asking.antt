-- Machinery: what the desk's functions promise one another. The public contract rests on none of this: a reader of it need not believe it.
use Rattle.std.specs.Prelude.{Bool, true, false, cond, ◌&&◌, ◌||◌, List, [], ◌∷◌, map, ◌≡◌, ℕ, ◌+◌, ◌≤◌, ltb, length}
use Rattle.words.specs.Fields.{function_word, literal_word, clause_word}
use Rattle.table.specs.Build.{at_front, behind}
use Rattle.table.specs.Encode.{clauses_words}
use Rattle.hukolearu.specs.Calls.{SearchAsked, search_call}
use Rattle.desk.specs.Records.{Record, slot_of, records_of, words_in_range}
use Rattle.desk.specs.declared.Slot.{Slot}
use Rattle.desk.specs.declared.Slot.TheVariants.{Matinee as matinee, Evening as evening, Either as either}
use Rattle.desk.specs.Desk.{is_of, recorded, settles, tries_for, slots_reported, unless_out}
use Rattle.desk.specs.Clauses.{clause_for}
use Rattle.desk.specs.declared.Report.{Report}
use Rattle.desk.specs.declared.Report.TheVariants.{Either, NotRecorded}
use Rattle.desk.specs.declared.ask.Answer.{Answer}
use Rattle.desk.specs.declared.ask.Answer.TheVariants.{BudgetEnded, Found, NoneFound}

-- what passed the first look
pub record Intake (words : List ℕ) : Type 0 where
  pub few : length words ≤ 1500
  pub in_range : words_in_range words ≡ true

pub record Asked (day house : ℕ) : Type 0 where
  pub day_few : day ≤ 366
  pub house_few : house ≤ 999

-- there is room for the file of so many records, their question and the trailer
pub record Recordable (words file : List ℕ) : Type 0 where
  pub intake : Intake words
  pub long : length file ≡ 4509

pub record Writable (words : List ℕ) (day house : ℕ) (file : List ℕ) : Type 0 where
  pub records : Recordable words file
  pub asked : Asked day house

-- words were put into a file from a place on, and the next place is behind them
pub record Puts (file : List ℕ) (at : ℕ) (words : List ℕ) (next : ℕ) (after : List ℕ) : Type 0 where
  pub next_place : next ≡ at + length words
  pub stands : after ≡ behind file at words

-- so many words stand at the front of a file, later words unchanged
pub record Fronts (file : List ℕ) (words : List ℕ) (count : ℕ) (after : List ℕ) : Type 0 where
  pub counted : count ≡ length words
  pub stands : after ≡ at_front words file

-- a clause with one literal
abbrev pub single_words : Bool → ℕ → ℕ → ℕ → ℕ → List ℕ
single_words negative variables day house slot =
    clause_word false 1 variables 4 ∷ literal_word negative 1 3 ∷ function_word day 0 ∷ function_word (1000 + house) 0 ∷ slot ∷ []

abbrev pub record_of : ℕ → ℕ → Slot → Record
record_of day house slot = record { day = day; house = house; slot = slot }

-- the words of the records' clauses
unfoldable pub records_words : List ℕ → List ℕ
records_words words = clauses_words (map clause_for (records_of words))

-- some record of that day and house settles the question
unfoldable pub settled_by : ℕ → ℕ → Slot → List Record → Bool
settled_by day house asked [] = false
settled_by day house asked (r ∷ rs) = (is_of day house r && settles asked r.slot) || settled_by day house asked rs

-- what the search is asked: K is 2, and the answer has room for at(day,house,matinee) or at(day,house,evening)
abbrev pub asks : List ℕ → ℕ → SearchAsked
asks file budget = record { file = file; bound = 2; budget = budget; proof_room = 199; answer_room = 8; work_room = 16384 }

abbrev pub status_for : List ℕ → ℕ → ℕ
status_for file budget = (search_call (asks file budget)).outcome.status

-- what a question with a budget hears
unfoldable pub heard : ℕ → ℕ → Bool → Answer
heard budget tries settled = cond (ltb budget tries) BudgetEnded (cond settled Found NoneFound)

-- what is reported of any slot, where neither is stated; and of the evening, where it is known whether a matinee is stated
abbrev pub any_reported : List Record → ℕ → ℕ → ℕ → Report
any_reported rs day house third =
    unless_out third (tries_for day house either rs) (cond (recorded day house either rs) Either NotRecorded)

abbrev pub evening_reported : Bool → List Record → ℕ → ℕ → ℕ → ℕ → Report
evening_reported stated rs day house second third =
    unless_out second (tries_for day house evening rs) (slots_reported stated (recorded day house evening rs) (any_reported rs day house third))

pub record NeitherRecorded (rs : List Record) (day house : ℕ) : Type 0 where
  pub no_matinee : recorded day house matinee rs ≡ false
  pub no_evening : recorded day house evening rs ≡ false
