-- What the matinee desk says (document 02, order 14), of records alone.
use Rattle.std.specs.Prelude.{Bool, true, false, cond, ◌&&◌, ◌||◌, List, [], ◌∷◌, ℕ, ◌+◌, eqb, ltb}
use Rattle.desk.specs.Records.{Record, records_of, acceptable}
use Rattle.desk.specs.declared.Slot.{Slot}
use Rattle.desk.specs.declared.Slot.TheVariants.{Matinee as matinee, Evening as evening, Either as either}
use Rattle.desk.specs.declared.DeskValues.{DeskValues}
use Rattle.desk.specs.declared.Report.{Report}
use Rattle.desk.specs.declared.Report.TheVariants.{Refused, RanOut, Matinee, Evening, MatineeAndEvening, Either, NotRecorded}

unfoldable pub same_slot : Slot → Slot → Bool
same_slot matinee matinee = true
same_slot matinee evening = false
same_slot matinee either = false
same_slot evening matinee = false
same_slot evening evening = true
same_slot evening either = false
same_slot either matinee = false
same_slot either evening = false
same_slot either either = true

-- a record of that day and house
unfoldable pub is_of : ℕ → ℕ → Record → Bool
is_of day house r = eqb r.day day && eqb r.house house

-- some record of that day and house has this slot: it states "matinee", or "evening", or leaves open which of the two ("either")
unfoldable pub recorded : ℕ → ℕ → Slot → List Record → Bool
recorded day house slot [] = false
recorded day house slot (r ∷ rs) = (is_of day house r && same_slot slot r.slot) || recorded day house slot rs

-- HOW MANY TRIES A QUESTION NEEDS
-- Three questions: for matinee, for evening, and (either) for any slot. A record of another day or house takes a try for each slot that it names.
unfoldable pub named : Slot → ℕ
named matinee = 1
named evening = 1
named either = 2

-- A record of that day and house settles the question for its own slot; the question for any slot is settled by each.
unfoldable pub settles : Slot → Slot → Bool
settles matinee slot = same_slot matinee slot
settles evening slot = same_slot evening slot
settles either slot = true

-- A record of that day and house that names one slot takes one try. An either-record takes two tries more for the slot that is not asked for:
-- four in all where one slot is asked for, and three where any is, which the first of its slots then settles.
unfoldable pub taken : Slot → Slot → ℕ
taken matinee either = 4
taken evening either = 4
taken either either = 3
taken matinee matinee = 1
taken matinee evening = 1
taken evening matinee = 1
taken evening evening = 1
taken either matinee = 1
taken either evening = 1

-- The records are gone through in their order, up to the first that settles the question.
unfoldable pub spent : Bool → Bool → Slot → Slot → ℕ → ℕ
spent false settled asked slot later = named slot + later
spent true false asked slot later = taken asked slot + later
spent true true asked slot later = taken asked slot

unfoldable pub tries_for : ℕ → ℕ → Slot → List Record → ℕ
tries_for day house asked [] = 0
tries_for day house asked (r ∷ rs) =
    spent (is_of day house r) (settles asked r.slot) asked r.slot (tries_for day house asked rs)

-- WHAT THE DESK REPORTS
-- "matinee" and "evening" independently, each when a record of that day and house states it; "either" when neither is stated and an either-record
-- exists; else "not recorded". The question for any slot is asked only when neither is stated, and has a budget of its own.
unfoldable pub slots_reported : Bool → Bool → Report → Report
slots_reported true true other = MatineeAndEvening
slots_reported true false other = Matinee
slots_reported false true other = Evening
slots_reported false false other = other

abbrev pub unless_out : ℕ → ℕ → Report → Report
unless_out budget tries report = cond (ltb budget tries) RanOut report

-- the budgets are those of the matinee, the evening and the any-slot question
unfoldable pub reported : List Record → ℕ → ℕ → ℕ → ℕ → ℕ → Report
reported rs day house forMatinee forEvening forAny =
    unless_out forMatinee (tries_for day house matinee rs)
    (unless_out forEvening (tries_for day house evening rs)
    (slots_reported (recorded day house matinee rs) (recorded day house evening rs)
    (unless_out forAny (tries_for day house either rs) (cond (recorded day house either rs) Either NotRecorded))))

-- 24 is looked at first
unfoldable pub desk_says : List ℕ → ℕ → ℕ → ℕ → ℕ → ℕ → Report
desk_says words day house forMatinee forEvening forAny =
    cond (acceptable words day house) (reported (records_of words) day house forMatinee forEvening forAny) Refused

-- THE REPORT'S VALUES
-- status 0, or 11 where a budget ended, or 24 where something was refused; and 1 for each slot that is reported
abbrev pub slots : ℕ → ℕ → ℕ → DeskValues
slots m e x = record { status = 0; matinee = m; evening = e; either = x }

abbrev pub no_slot : ℕ → DeskValues
no_slot status = record { status = status; matinee = 0; evening = 0; either = 0 }

abbrev pub values_of : Report → DeskValues
values_of Refused = no_slot 24
values_of RanOut = no_slot 11
values_of Matinee = slots 1 0 0
values_of Evening = slots 0 1 0
values_of MatineeAndEvening = slots 1 1 0
values_of Either = slots 0 0 1
values_of NotRecorded = slots 0 0 0
