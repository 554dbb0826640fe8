-- The season report (document 02, order 13): many questions put to one table. Each entry's result is that of a single run, a search of the
-- table's file with the question in the place of the table's own.
use Rattle.std.specs.Prelude.{Bool, cond, not, ◌&&◌, List, [], ◌∷◌, ◌++◌, map, ℕ, ◌+◌, ◌/◌, ◌%◌, eqb, leb, length, take, drop}
use Rattle.std.proofs.Math.Option.{Option}
use Rattle.table.specs.Build.{trailer_words}
use Rattle.table.specs.File.{trailer}
use Rattle.hukolearu.specs.Status as Status
use Rattle.hukolearu.specs.Door.{Fault, Check, refused_if, first_fault, work_check, proof_check, file_check, behind, work_after}
use Rattle.hukolearu.specs.Calls.{Given, SearchAsked, search_call, at_front}
use Rattle.hukolearu.specs.declared.Outcome.{Outcome}
use Rattle.season.specs.declared.Report.{Report}

-- THE ENTRIES
-- four words an entry: the place and length of a question's words in the list of words, a bound and a budget
pub record Entry : Type 0 where
  pub place : ℕ
  pub count : ℕ
  pub bound : ℕ
  pub budget : ℕ

-- words left over make no entry
unfoldable pub entries_of : List ℕ → List Entry
entries_of [] = []
entries_of (place ∷ []) = []
entries_of (place ∷ count ∷ []) = []
entries_of (place ∷ count ∷ bound ∷ []) = []
entries_of (place ∷ count ∷ bound ∷ budget ∷ words) =
    record { place = place; count = count; bound = bound; budget = budget } ∷ entries_of words

-- What the call is asked: a question file as the table, the entries' words, the list of words, and how many words of proof, answer and work it is lent.
pub record SeasonAsked : Type 0 where
  pub table : List ℕ
  pub entries : List ℕ
  pub list : List ℕ
  pub proof_room : ℕ
  pub answer_room : ℕ
  pub work_room : ℕ

-- ONE QUESTION
-- the table's own part of its file: the clauses before its question
abbrev pub own_part : List ℕ → List ℕ
own_part table = take (trailer table 0) table

abbrev pub body_with : List ℕ → List ℕ → List ℕ
body_with table question = own_part table ++ question

-- the question takes the place of the table's own: trailer (2) and (3) are made to fit, (0) and (1) stay the table's
unfoldable pub file_with : List ℕ → List ℕ → List ℕ
file_with table question = body_with table question ++ trailer_words (body_with table question) (trailer table 0) (trailer table 1)

-- the question's words in the list; it points past the list where their end does
abbrev pub question_at : List ℕ → Entry → List ℕ
question_at list e = take e.count (drop e.place list)

abbrev pub points_inside : List ℕ → Entry → Bool
points_inside list e = leb (e.place + e.count) (length list)

-- the single run of an entry: a search of that file, with the buffers that the season is lent
abbrev pub single_asked : SeasonAsked → Entry → SearchAsked
single_asked a e =
    record {
      file = file_with a.table (question_at a.list e);
      bound = e.bound;
      budget = e.budget;
      proof_room = a.proof_room;
      answer_room = a.answer_room;
      work_room = a.work_room;
    }

-- the six results, in the order in which they are reported
abbrev pub definite : ℕ
definite = 0

abbrev pub indefinite : ℕ
indefinite = 1

abbrev pub none_found : ℕ
none_found = 2

abbrev pub ran_out : ℕ
ran_out = 3

abbrev pub too_long : ℕ
too_long = 4

abbrev pub refused : ℕ
refused = 5

-- the result of a single run: an answer is definite when it has one disjunct; every status that a run has beside these is a refusal
unfoldable pub result_of : Outcome → ℕ
result_of o =
    cond (eqb o.status Status.done) (cond (eqb o.disjuncts 1) definite indefinite)
    (cond (eqb o.status Status.none_found) none_found
    (cond (eqb o.status Status.ran_out) ran_out
    (cond (eqb o.status Status.answer_too_long) too_long refused)))

-- what comes of an entry: its result, its tries, and the words that it leaves at the front of the proof and answer buffers
pub record Run : Type 0 where
  pub result : ℕ
  pub tries : ℕ
  pub proof : List ℕ
  pub answer : List ℕ

abbrev pub ran : Given → Run
ran g = record { result = result_of g.outcome; tries = g.outcome.tries; proof = g.proof; answer = g.answer }

-- one that points past the list counts as refused, and is not run
abbrev pub not_run : Run
not_run = record { result = refused; tries = 0; proof = []; answer = [] }

unfoldable pub run_of : SeasonAsked → Entry → Run
run_of a e = cond (points_inside a.list e) (ran (search_call (single_asked a e))) not_run

-- THE REPORT
abbrev pub runs_of : SeasonAsked → List Run
runs_of a = map (run_of a) (entries_of a.entries)

-- how many of the runs have this result
abbrev pub one_if : Bool → ℕ
one_if b = cond b 1 0

unfoldable pub how_many : ℕ → List Run → ℕ
how_many result [] = 0
how_many result (run ∷ runs) = one_if (eqb run.result result) + how_many result runs

unfoldable pub tries_of : List Run → ℕ
tries_of [] = 0
tries_of (run ∷ runs) = run.tries + tries_of runs

abbrev pub counted : List Run → Report
counted runs =
    record {
      status = Status.done;
      place = 0;
      definite = how_many definite runs;
      indefinite = how_many indefinite runs;
      none = how_many none_found runs;
      ranout = how_many ran_out runs;
      toolong = how_many too_long runs;
      refused = how_many refused runs;
      tries = tries_of runs;
    }

-- the buffers as the runs in turn leave them
unfoldable pub proof_left : List Run → List ℕ → List ℕ
proof_left [] proof = proof
proof_left (run ∷ runs) proof = proof_left runs (at_front run.proof proof)

unfoldable pub answer_left : List Run → List ℕ → List ℕ
answer_left [] answer = answer
answer_left (run ∷ runs) answer = answer_left runs (at_front run.answer answer)

-- REFUSALS
-- 23: more than 4,096 entries, or words left over
unfoldable pub entries_fit : ℕ → Bool
entries_fit words = eqb (words % 4) 0 && leb (words / 4) 4096

abbrev pub entries_check : List ℕ → Check
entries_check entries = refused_if (not (entries_fit (length entries))) 23

-- 1, 2, the table's own, then 23
abbrev pub season_checks : SeasonAsked → List Check
season_checks a = work_check a.work_room ∷ proof_check 199 a.proof_room ∷ file_check a.table ∷ entries_check a.entries ∷ []

abbrev pub season_fault : SeasonAsked → Option Fault
season_fault a = first_fault (season_checks a)

-- all numbers are then 0
abbrev pub refused_report : ℕ → ℕ → Report
refused_report status place =
    record {
      status = status;
      place = place;
      definite = 0;
      indefinite = 0;
      none = 0;
      ranout = 0;
      toolong = 0;
      refused = 0;
      tries = 0;
    }

-- THE CALL
unfoldable pub report_of : SeasonAsked → Report
report_of a = behind (season_fault a) (λ fault. refused_report fault.status fault.place) (counted (runs_of a))

unfoldable pub proof_after : SeasonAsked → List ℕ → List ℕ
proof_after a proof = behind (season_fault a) (λ fault. proof) (proof_left (runs_of a) proof)

unfoldable pub answer_after : SeasonAsked → List ℕ → List ℕ
answer_after a answer = behind (season_fault a) (λ fault. answer) (answer_left (runs_of a) answer)

-- the work words are zeroed, with no runs too; status 1 leaves them
abbrev pub work_left : SeasonAsked → List ℕ → List ℕ
work_left a work = work_after work

-- as the buffers are lent
abbrev pub season_with : List ℕ → List ℕ → List ℕ → List ℕ → List ℕ → List ℕ → SeasonAsked
season_with table entries list proof answer work =
    record { table = table; entries = entries; list = list; proof_room = length proof; answer_room = length answer; work_room = length work }
