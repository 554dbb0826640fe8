-- The public calls (document 01, "What comes back"): for every file, proof, bound, budget and buffer size, the six numbers that come back
-- and the words that then stand at the front of the proof and answer buffers.
use Rattle.std.specs.Prelude.{cond, List, [], ◌++◌, map, ℕ, min, leb, length, drop}
use Rattle.words.specs.Steps.{step_of, step_word}
use Rattle.words.specs.declared.Step.{Step}
use Rattle.table.specs.Syntax.{Table}
use Rattle.table.specs.File.{table_in}
use Rattle.rules.specs.Setting.{Profile, longest_proof, read_steps, Setting, over, base}
use Rattle.rules.specs.Verdict.{status_of, SearchVerdict, finds, finds_none, runs_out}
use Rattle.rules.specs.Machinery.Play.{Play, Checking, passed, stopped, check, search_for, answer_of, disjuncts_of}
use Rattle.hukolearu.specs.Status as Status
use Rattle.hukolearu.specs.Door.{Fault, first_fault, checks, behind}
use Rattle.hukolearu.specs.declared.Outcome.{Outcome}
use Rattle.hukolearu.specs.declared.door.Inputs.{Inputs}

-- what a call gives: the numbers, and the words of the proof and of the answer
pub record Given : Type 0 where
  pub outcome : Outcome
  pub proof : List ℕ
  pub answer : List ℕ

-- any status but 0: neither buffer changes, and numbers not named are 0
abbrev pub refused : ℕ → ℕ → ℕ → Given
refused status place tries =
    record {
      outcome = record { status = status; place = place; proof = 0; disjuncts = 0; answer = 0; tries = tries };
      proof = [];
      answer = [];
    }

-- status 0, found or accepted: all numbers but place
abbrev pub granted : ℕ → List ℕ → ℕ → List ℕ → ℕ → Given
granted steps proof disjuncts answer tries =
    record {
      outcome = record { status = Status.done; place = 0; proof = steps; disjuncts = disjuncts; answer = length answer; tries = tries };
      proof = proof;
      answer = answer;
    }

-- status 16 comes last: answer longer than its buffer. A length is told in one word, so no more room than that counts.
abbrev pub room_of : ℕ → ℕ
room_of words = min words 4294967295

unfoldable pub answered : Table → ℕ → List ℕ → ℕ → ℕ → Play → Given
answered t steps proof tries room p =
    cond (leb (length (answer_of t p)) (room_of room)) (granted steps proof (disjuncts_of t p) (answer_of t p) tries) (refused Status.answer_too_long 0 tries)

-- the checker: 12 to 15 or 20 with the place of the step; on 0 the step count as proof words, with tries 0, and no proof is written
unfoldable pub check_given : Table → ℕ → ℕ → Checking → Given
check_given t steps room (passed p) = answered t steps [] 0 room p
check_given t steps room (stopped why place) = refused (status_of why) place 0

-- the search: the steps found, with the answer of the tableau that they close; 10, none within the bound; 11, ran out
unfoldable pub found_given : Table → List Step → ℕ → ℕ → Checking → Given
found_given t steps tries room (passed p) = answered t (length steps) (map step_word steps) tries room p
found_given t steps tries room (stopped why place) = refused (status_of why) place tries

unfoldable pub search_given : Setting → ℕ → SearchVerdict → Given
search_given S room (finds steps tries) = found_given S.table steps tries room (check S steps)
search_given S room (finds_none tries) = refused Status.none_found 0 tries
search_given S room (runs_out tries) = refused Status.ran_out 0 tries

-- a call that a check of input refuses
abbrev pub refused_by : Fault → Given
refused_by fault = refused fault.status fault.place 0

-- What a search is asked: the file, the bound, the budget, and how many words of proof, answer and work it is lent.
pub record SearchAsked : Type 0 where
  pub file : List ℕ
  pub bound : ℕ
  pub budget : ℕ
  pub proof_room : ℕ
  pub answer_room : ℕ
  pub work_room : ℕ

-- the proof buffer must hold the longest proof of the rules that are asked for
abbrev pub inputs_by : Profile → SearchAsked → Inputs
inputs_by rules a = record { bound = a.bound; work = a.work_room; proof = a.proof_room; least = longest_proof rules }

abbrev pub search_inputs : SearchAsked → Inputs
search_inputs a = record { bound = a.bound; work = a.work_room; proof = a.proof_room; least = 199 }

-- the search by any profile's rules
unfoldable pub search_by : Profile → SearchAsked → Given
search_by rules a =
    let S : Setting = over rules (table_in a.file) a.bound in
    behind (first_fault (checks a.file (inputs_by rules a))) refused_by (search_given S a.answer_room (search_for S a.budget))

-- document 01's rules over the file's table within the bound
abbrev pub search_setting : SearchAsked → Setting
search_setting a = base (table_in a.file) a.bound

unfoldable pub search_call : SearchAsked → Given
search_call a =
    behind (first_fault (checks a.file (search_inputs a))) refused_by
    (search_given (search_setting a) a.answer_room (search_for (search_setting a) a.budget))

-- What a check of a proof is asked: no budget, and the offered proof in place of a proof buffer.
pub record CheckAsked : Type 0 where
  pub file : List ℕ
  pub bound : ℕ
  pub offered : List ℕ
  pub answer_room : ℕ
  pub work_room : ℕ

abbrev pub check_inputs : CheckAsked → Inputs
check_inputs a = record { bound = a.bound; work = a.work_room; proof = 0; least = 0 }

abbrev pub check_setting : CheckAsked → Setting
check_setting a = base (table_in a.file) a.bound

unfoldable pub check_call : CheckAsked → Given
check_call a =
    behind (first_fault (checks a.file (check_inputs a))) refused_by
    (check_given (table_in a.file) (length a.offered) a.answer_room (check (check_setting a) (map step_of a.offered)))

-- the check by any profile's rules, its words read as the profile reads them
unfoldable pub check_by : Profile → CheckAsked → Given
check_by rules a =
    behind (first_fault (checks a.file (check_inputs a))) refused_by
    (check_given (table_in a.file) (length a.offered) a.answer_room
    (check (over rules (table_in a.file) a.bound) (read_steps rules a.offered)))

-- as the buffers are lent
abbrev pub search_with : List ℕ → ℕ → ℕ → List ℕ → List ℕ → List ℕ → SearchAsked
search_with file bound budget proof answer work =
    record { file = file; bound = bound; budget = budget; proof_room = length proof; answer_room = length answer; work_room = length work }

abbrev pub check_with : List ℕ → ℕ → List ℕ → List ℕ → List ℕ → CheckAsked
check_with file bound offered answer work =
    record { file = file; bound = bound; offered = offered; answer_room = length answer; work_room = length work }

-- on 0 the proof and answer stand at the front of their buffers, later words unchanged; on other statuses neither buffer changes
abbrev pub at_front : List ℕ → List ℕ → List ℕ
at_front words buffer = words ++ drop (length words) buffer
