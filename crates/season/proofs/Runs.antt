-- What comes of a question and of an entry, as the code finds it.
use mathlib.Core.Bool.{Bool, true, false, not}
use mathlib.Core.List.{List}
use mathlib.Core.Path.{◌≡◌, refl, sym, ap, ◌∙◌}
use Prim.Native.Nat.{ℕ, ◌+◌, ◌-◌, ◌≤◌, ◌<◌}
use native.Mathlib.Omega.{arith}
use borrow.Author.Tests.{le-leb, lt-leb, leb-true, eqb-true, not-true, not-false}
use lib.Dec.{leb}
use lib.ListN.{length, take, drop}
use Rattle.table.specs.File.{judge, trailer}
use Rattle.table.specs.Limits.{Words}
use Rattle.table.proofs.Bools.{and_left, and_right}
use Rattle.hukolearu.specs.Telling.{Told, Passed}
use Rattle.hukolearu.specs.declared.Outcome.{Outcome}
use Rattle.season.specs.Season.{Entry, file_with, result_of, Run, ran, not_run}
use Rattle.season.specs.Asking.{admits, search_inside, question_run, entry_run, number_of, Ran}
use Rattle.season.specs.declared.ask.Ended.{Ended}
use Rattle.season.specs.declared.tally.Kind.{Kind}
use Rattle.season.specs.declared.tally.Kind.TheVariants.{Refused}
use Rattle.season.proofs.Questions.{with_asks, with_short, with_question_lem}

-- a run that says the same
pub same_run : {r s : Run} → r ≡ s → {e : Ended} {proof proof' answer answer' : List ℕ} → Ran s e proof proof' answer answer' → Ran r e proof proof' answer answer'
same_run e x = rw e x

pub nothing_ran : (proof answer : List ℕ) → Ran not_run (record { result = Refused; tries = 0 }) proof proof answer answer
nothing_ran proof answer = record { result = refl; tries = refl; steps = refl; words = refl }

-- a question
module _ (table question : List ℕ) (bound : ℕ) {b : Bool} (e : b ≡ admits table question bound) where
  module _ (room budget : ℕ) where
    pub not_asked : not b ≡ true → question_run table question room bound budget ≡ not_run
    unfolding question_run
    not_asked n = rw (← e, not-true b n)

    pub asked : not b ≡ false → question_run table question room bound budget ≡ ran (search_inside (file_with table question) room bound budget)
    unfolding question_run
    asked n = rw (← e, not-false b n)

  module _ (n : not b ≡ false) where
    admitted : admits table question bound ≡ true
    admitted = sym e ∙ not-false b n

    pub low_bound : bound ≤ 32
    unfolding admits
    low_bound = leb-true bound 32 (and_left (leb bound 32) _ admitted)

    pub file_judged : (judge (file_with table question)).status ≡ 0
    unfolding admits
    file_judged = eqb-true _ 0 (and_right (leb bound 32) _ admitted)

    module _ (small : Words table) (z : (judge table).status ≡ 0) (few : Words question) where
      pub file_short : trailer table 0 + length question + 4 ≤ 16000
      file_short = with_short table small z question few file_judged

      pub file_passed : {file work : List ℕ} {at : ℕ} → file ≡ file_with table question → at ≡ trailer table 0 → length work ≡ 16384
          → Passed file work at bound
      file_passed f a w =
          rw f (record {
            room = w;
            judged = file_judged;
            asked = a ∙ sym (with_question_lem table small z question (with_asks table small z question few file_judged) file_short);
            low = low_bound;
          })

pub run_told : {file file' : List ℕ} (room bound budget : ℕ) → file ≡ file' → {o : Outcome} {r : Kind} {proof proof' answer answer' : List ℕ}
    → Told (search_inside file room bound budget) o proof proof' answer answer' → number_of r ≡ result_of o
    → Ran (ran (search_inside file' room bound budget)) (record { result = r; tries = o.tries }) proof proof' answer answer'
run_told {file} room bound budget f {o} t e =
    rw (← f) (record {
      result = e ∙ ap (λ (x : Outcome). result_of x) t.numbers;
      tries = ap (λ (x : Outcome). x.tries) t.numbers;
      steps = t.steps;
      words = t.words;
    })

-- an entry
module _ (table list : List ℕ) (room : ℕ) (e : Entry) where
  pub past_list : length list < e.place + e.count → entry_run table list room e ≡ not_run
  unfolding entry_run
  past_list h = rw (lt-leb (e.place + e.count) (length list) h)

  pub in_list : e.place + e.count ≤ length list → {start end : ℕ} → start ≡ e.place → end ≡ e.place + e.count
      → entry_run table list room e ≡ question_run table (take (end - start) (drop start list)) room e.bound e.budget
  unfolding entry_run
  in_list h {start} {end} s n =
      let count : e.count ≡ end - start = omega arith in
      rw (le-leb (e.place + e.count) (length list) h)
      (λ i. question_run table (take (count i) (drop (sym s i) list)) room e.bound e.budget)
