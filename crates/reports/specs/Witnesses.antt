-- The judgements of this crate on texts and lines, each where it holds and where it fails.
use Rattle.std.specs.Prelude.{false, [], ◌∷◌, ◌≡◌, ℕ, Some, None, Ok, Err}
use Rattle.text.specs.Quoted.{bytes}
use Rattle.season.specs.declared.Report.{Report}
use Rattle.desk.specs.declared.Report.TheVariants.{MatineeAndEvening, Either, NotRecorded, RanOut}
use Rattle.reports.specs.Clauses.{clauses_from, stated_text}
use Rattle.reports.specs.Counts.{ended_text, status_text}
use Rattle.reports.specs.Said.{slot_text, desk_text}
use Rattle.reports.specs.Records.{said_in, lines_of, words_said, first_fault}
use Rattle.reports.specs.declared.records.Wanted.TheVariants.{Day, House, Slot, LineEnd}

-- a `.` in a comment ends no clause
unfoldable pub ClausesCut : Type 0
ClausesCut = clauses_from false (bytes "a%.\nb.c.d") ≡ (bytes "a%.\nb." ∷ bytes "c." ∷ bytes "d" ∷ [])

unfoldable pub LinesRead : Type 0
LinesRead =
    (said_in (bytes " 92 17  evening % two") ≡ Ok (Some (record { day = 92; house = 17; slot = 2 })))
    × (said_in (bytes " % no record") ≡ Ok None)
    × (said_in (bytes "367 17 matinee") ≡ Err (record { place = 0; wanted = Day }))
    × (said_in (bytes "92 0 matinee") ≡ Err (record { place = 3; wanted = House }))
    × (said_in (bytes "92 17 noon") ≡ Err (record { place = 6; wanted = Slot }))
    × (said_in (bytes "92 17 either 4") ≡ Err (record { place = 13; wanted = LineEnd }))

unfoldable pub TextRead : Type 0
TextRead =
    (words_said (lines_of (bytes "92 17 matinee\n\n93 17 either")) ≡ (92 ∷ 17 ∷ 1 ∷ 93 ∷ 17 ∷ 3 ∷ []))
    × (first_fault 0 (lines_of (bytes "92 17 matinee\n\n93 17 either")) ≡ None)
    × (first_fault 0 (lines_of (bytes "92 17 matinee\n92 x matinee\n")) ≡ Some (record { place = 17; wanted = House }))

-- nothing found, none within the limit, one found but too long: only the last tells of a refutation
abbrev of_none : ℕ → ℕ → Report
of_none none toolong =
    record { status = 0; place = 0; definite = 0; indefinite = 0; none = none; ranout = 0; toolong = toolong; refused = 0; tries = 0 }

unfoldable pub ResultsTold : Type 0
ResultsTold =
    (ended_text (of_none 0 0) ≡ bytes "refused")
    × (status_text (of_none 0 0) ≡ bytes "InputError")
    × (status_text (of_none 1 0) ≡ bytes "GaveUp")
    × (status_text (of_none 0 1) ≡ bytes "Unsatisfiable")

-- a table without its question, wherever that stands; a word that only begins like the role is no question
unfoldable pub QuestionsLeftOut : Type 0
QuestionsLeftOut =
    (stated_text (bytes "cnf(a,axiom,p).cnf(q,negated_conjecture,~p). cnf(b,axiom,n).") ≡ bytes "cnf(a,axiom,p). cnf(b,axiom,n).")
    × (stated_text (bytes "cnf(q,negated_conjecture,~p).") ≡ [])
    × (stated_text (bytes "cnf(negated_conjecture,axiom,p).") ≡ bytes "cnf(negated_conjecture,axiom,p).")

-- two events are not an open bill, and neither is a day without a record
unfoldable pub SlotsTold : Type 0
SlotsTold =
    (slot_text MatineeAndEvening ≡ bytes "matinee and evening, two events\n")
    × (slot_text Either ≡ bytes "matinee or evening, the bill leaves it open\n")
    × (slot_text RanOut ≡ bytes "ran out, nothing is known yet\n")
    × (desk_text 92 17 NotRecorded ≡ bytes "Day 92, house 17: not recorded\n")
