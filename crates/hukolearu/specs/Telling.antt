-- Machinery: what the functions below the public calls promise one another. No public contract speaks of it.
use Rattle.std.specs.Prelude.{Bool, cond, List, ◌≡◌, ℕ, ◌≤◌, leb, length}
use Rattle.table.specs.File.{judge}
use Rattle.unification.specs.Places.{work_words}
use Rattle.unification.specs.Good.{Good}
use Rattle.answers.specs.Writing.{words_of, answer_held, Unmarked}
use Rattle.answers.specs.Repeats.{disjuncts_held, Chose}
use Rattle.hukolearu.specs.Calls.{Given, granted, refused, room_of, at_front}
use Rattle.hukolearu.specs.declared.Outcome.{Outcome}

-- the numbers of a call, and its words at the front of the proof and answer buffers; a check lends no proof buffer
pub record Told (g : Given) (r : Outcome) (proof proof' answer answer' : List ℕ) : Type 0 where
  pub numbers : r ≡ g.outcome
  pub steps : proof' ≡ at_front g.proof proof
  pub words : answer' ≡ at_front g.answer answer

-- the checks of input are passed
pub record Passed (f m : List ℕ) (question bound : ℕ) : Type 0 where
  pub room : length m ≡ work_words
  pub judged : (judge f).status ≡ 0
  pub asked : question ≡ (judge f).question
  pub low : bound ≤ 32

-- the work words hold a play that has an answer
pub record Answerable (f m : List ℕ) : Type 0 where
  pub good : Good f m
  pub unmarked : Unmarked m

-- which copies are kept was chosen, and whether the answer fits
pub record Fits (f m m' : List ℕ) (question words : ℕ) (r : Bool) : Type 0 where
  pub chose : Chose f m m' question
  pub says : r ≡ leb (length (words_of (disjuncts_held f m question))) (room_of words)

-- the answer that is kept fits a buffer
pub record Writable (f m buffer : List ℕ) : Type 0 where
  pub answerable : Answerable f m
  pub inside : length (answer_held f m) ≤ length buffer
  pub small : length (answer_held f m) ≤ 4294967295

-- what is told of it: as `answered` of Calls, by the work words
unfoldable pub held : List ℕ → List ℕ → ℕ → ℕ → List ℕ → ℕ → ℕ → Given
held f m question steps proof tries room =
    cond (leb (length (words_of (disjuncts_held f m question))) (room_of room))
    (granted steps proof (length (disjuncts_held f m question)) (words_of (disjuncts_held f m question)) tries)
    (refused 16 0 tries)
