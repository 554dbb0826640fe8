-- Order 6 on document 01's first question, which has no proof at bounds 0 and 1 (0 and 4 tries) and one at 2 (3 tries); and on a file that is refused.
-- Each promise's premises are met by one of them, and each outcome happens. proofs/Cases.antt proves it by computation.
use Rattle.std.specs.Prelude.{List, [], ◌∷◌, map, ◌≡◌, ℕ}
use Rattle.hukolearu.specs.Status as Status
use Rattle.hukolearu.specs.Calls.{refused, granted, SearchAsked}
use Rattle.hukolearu.specs.Cases.{mat_or_eve, case_one}
use Rattle.smallest.specs.Smallest.{LeastGiven, smallest_call}

abbrev pub asked : ℕ → ℕ → ℕ → SearchAsked
asked limit budget answer_room =
    record { file = mat_or_eve; bound = limit; budget = budget; proof_room = 199; answer_room = answer_room; work_room = 16384 }

abbrev pub calls : List SearchAsked
calls =
    asked 2 7 6
    ∷ asked 32 7 6
    ∷ asked 2 6 6
    ∷ asked 2 3 6
    ∷ asked 1 4 6
    ∷ asked 0 0 6
    ∷ asked 2 7 5
    ∷ asked 33 7 6
    ∷ record { file = []; bound = 2; budget = 7; proof_room = 199; answer_room = 6; work_room = 16384 }
    ∷ []

-- a proof of two steps at bound 2 after 0 + 4 + 3 tries
abbrev pub at_two : LeastGiven
at_two = record { bound = 2; given = granted 2 case_one.proof 2 case_one.answer 7 }

abbrev pub without : ℕ → ℕ → LeastGiven
without status tries = record { bound = 0; given = refused status 0 tries }

abbrev pub results : List LeastGiven
results =
    at_two
    ∷ at_two
    ∷ without Status.ran_out 6
    ∷ without Status.ran_out 3
    ∷ without Status.none_found 4
    ∷ without Status.none_found 0
    ∷ record { bound = 2; given = refused Status.answer_too_long 0 7 }
    ∷ without Status.bound_too_high 0
    ∷ without 4 0
    ∷ []

abbrev pub SmallestCases : Type 0
SmallestCases = map smallest_call calls ≡ results
