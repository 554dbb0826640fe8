-- What a call tells, outcome by outcome: each law goes from what a function below the public calls knows to what it promises.
use mathlib.Core.Bool.{Bool, true, false, not}
use mathlib.Core.List.{List, [], ◌∷◌}
use mathlib.Core.Path.{◌≡◌, refl, sym, ◌∙◌, ap, ap₂, subst}
use Prim.Native.Nat.{ℕ, zero, suc, ◌+◌, ◌-◌, ◌≤◌, ◌<◌}
use native.Mathlib.Omega.{arith}
use borrow.Author.Tests.{le-leb, lt-leb, leb-true, not-true, not-false}
use lib.Dec.{leb}
use lib.ListN.{length, take, drop, get_or}
use lib.Seq.{length-take-le, drop-cons}
use Rattle.table.specs.File.{judge, table_in}
use Rattle.rules.specs.Setting.{Profile, every_leaf, profile_of, longest_proof, read_steps, over}
use Rattle.rules.specs.Answer.{answer_words, per_copy, disjuncts}
use Rattle.rules.specs.Machinery.Unify.{solution}
use Rattle.rules.specs.Substitution.{Variable}
use Rattle.table.specs.Syntax.{Literal}
use Rattle.rules.specs.Machinery.Play.{Play, check, search_for, disjuncts_of}
use Rattle.rules.specs.Machinery.Play as Play
use Rattle.unification.specs.Places.{most_leaves, step_places, number_places, work_words}
use Rattle.hukolearu.specs.Calls.{Given, refused, granted, room_of, answered, check_given, found_given, search_given, refused_by, SearchAsked, inputs_by, search_by, search_call, CheckAsked, check_inputs, check_by, check_call, at_front}
use Rattle.engine.specs.Ended.{setting_for, Ended}
use Rattle.engine.specs.declared.Conditions.{Conditions}
use Rattle.answers.specs.Writing.{words_of, disjuncts_kept, answer_held, Counted, Answered}
use Rattle.answers.specs.Repeats.{disjuncts_held, Chose}
use Rattle.engine.specs.Searching.{Ends}
use Rattle.engine.specs.Checking.{status_for, RefusedAs, Decided}
use Rattle.hukolearu.specs.Enums.{by_ending, by_verdict, by_room}
use Rattle.hukolearu.specs.Telling.{Told, Passed, Answerable, Fits, Writable, held}
use Rattle.hukolearu.specs.declared.Outcome.{Outcome}
use Rattle.engine.specs.declared.check.Refusal as engine
use Rattle.engine.specs.declared.check.Refused.{Refused}
use Rattle.engine.specs.declared.search.Searched.{Searched}
use Rattle.engine.specs.declared.search.Ending.{Ending}
use Rattle.engine.specs.declared.search.Ending.TheVariants.{Found as AFound, Nothing, Out}
use Rattle.answers.specs.declared.answer.Answer.{Answer}
use Rattle.std.specs.Prelude.{Option, Some, None, Result, Ok, Err}
use Rattle.hukolearu.specs.Door.{Admitted, entry_of}
use Rattle.hukolearu.specs.declared.door.Refusal.{Refusal}
use Rattle.hukolearu.specs.declared.door.Inputs.{Inputs}
use Rattle.hukolearu.proofs.DoorLaws.{question_stands, opened, shut, inside}

-- a refusal changes neither buffer
pub refuses : {g : Given} {status place tries : ℕ} → g ≡ refused status place tries → {r : Outcome} (proof answer : List ℕ)
    → r ≡ (refused status place tries).outcome → Told g r proof proof answer answer
refuses e proof answer h = rw e (record { numbers = h; steps = refl; words = refl })

-- what is told of one is told of its equal
pub tells : {g h : Given} → g ≡ h → {r : Outcome} {proof proof' answer answer' : List ℕ} → Told h r proof proof' answer answer'
    → Told g r proof proof' answer answer'
tells e t = rw e t

-- the question of an accepted file
module _ (f : List ℕ) (judged : (judge f).status ≡ 0) {question : ℕ} (asked : question ≡ (judge f).question) where
  -- the work words hold a play at its end: its answer is theirs
  module _ {m : List ℕ} {p : Play} (e : Ended f m question p) where
    pub answerable : Answerable f m
    answerable = record { good = e.good; unmarked = e.unnumbered }

    same_disjuncts : disjuncts_held f m question ≡ disjuncts (solution p.bindings) (table_in f) p.tableau
    unfolding disjuncts_held disjuncts per_copy
    same_disjuncts = rw (e.bindings, e.questions, (question_stands f judged asked).1)

    same_answer : words_of (disjuncts_held f m question) ≡ Play.answer_of (table_in f) p
    unfolding Play.answer_of answer_words
    same_answer = ap words_of same_disjuncts

    same_count : length (disjuncts_held f m question) ≡ disjuncts_of (table_in f) p
    unfolding disjuncts_of
    same_count = ap length same_disjuncts

    pub held_answered : (steps : ℕ) (proof : List ℕ) (tries room : ℕ) → answered (table_in f) steps proof tries room p ≡ held f m question steps proof tries room
    unfolding answered held
    held_answered steps proof tries room = rw (← same_answer, ← same_count)

-- no profile has longer proofs than these
longest_of_all : (restarts : Bool) → longest_proof (profile_of restarts) ≤ most_leaves
longest_of_all false = omega arith
longest_of_all true = omega arith

pub longest_restarted : {restarts : Bool} → restarts ≡ true → 231 ≡ longest_proof (profile_of restarts)
longest_restarted e = rw e

pub longest_base : {restarts : Bool} → restarts ≡ false → 199 ≡ longest_proof (profile_of restarts)
longest_base e = rw e

pub ruleset longest_laws = (longest_restarted, longest_base)

-- the search: none within the bound, out of tries, or found
module _ (f m : List ℕ) (question : ℕ) (conditions : Conditions) (budget : ℕ) (ended : Searched) (h : Ends ended.ending f m question conditions budget ended) where
  as-ended : {e : Ending} → ended.ending ≡ e → Ends e f m question conditions budget ended
  as-ended e = subst (λ (x : Ending). Ends x f m question conditions budget ended) e h

  pub nothing_left : ended.ending ≡ Nothing → ended.left ≤ budget
  nothing_left e = (as-ended e).1

  pub found_left : ended.ending ≡ AFound → ended.left ≤ budget
  found_left e = (as-ended e).within

  pub found_few : ended.ending ≡ AFound → ended.steps ≤ most_leaves
  found_few e = omega (arith, (as-ended e).few, longest_of_all conditions.restarts)

  pub found_room : {room : ℕ} → longest_proof (profile_of conditions.restarts) ≤ room → ended.ending ≡ AFound → ended.steps ≤ room
  found_room l e = omega (arith, (as-ended e).few, l)

  pub found_answerable : {m₀ : List ℕ} → Passed f m₀ question conditions.bound → ended.ending ≡ AFound → Answerable f m
  found_answerable p e = answerable f p.judged p.asked (as-ended e).ended

  pub nothing_given : (room : ℕ) → ended.ending ≡ Nothing
      → search_given (setting_for f conditions) room (search_for (setting_for f conditions) budget) ≡ refused 10 0 (budget - ended.left)
  unfolding search_given
  nothing_given room e = rw (as-ended e).0

  pub out_given : (room : ℕ) → ended.ending ≡ Out → search_given (setting_for f conditions) room (search_for (setting_for f conditions) budget) ≡ refused 11 0 budget
  unfolding search_given
  out_given room e = rw (as-ended e)

  pub found_given_lem : {m₀ : List ℕ} (room : ℕ) → Passed f m₀ question conditions.bound → ended.ending ≡ AFound
      → search_given (setting_for f conditions) room (search_for (setting_for f conditions) budget)
      ≡ held f m question ended.steps (take ended.steps (drop step_places m)) (budget - ended.left) room
  unfolding search_given found_given
  found_given_lem room p e =
      let x = as-ended e in
      rw (x.says, x.passes, ← x.count, ← x.noted)
      (held_answered f p.judged p.asked x.ended ended.steps (take ended.steps (drop step_places m)) (budget - ended.left) room)

  -- by the enum's own definition
  pub search_by_ending : {m₀ : List ℕ} (room : ℕ) → Passed f m₀ question conditions.bound
      → search_given (setting_for f conditions) room (search_for (setting_for f conditions) budget)
      ≡ by_ending ended.ending budget ended.left
      (held f m question ended.steps (take ended.steps (drop step_places m)) (budget - ended.left) room)
  search_by_ending room p = go ended.ending refl
    where
      go : (e : Ending) → ended.ending ≡ e
          → search_given (setting_for f conditions) room (search_for (setting_for f conditions) budget)
          ≡ by_ending e budget ended.left (held f m question ended.steps (take ended.steps (drop step_places m)) (budget - ended.left) room)
      go AFound e = found_given_lem room p e
      go Nothing e = nothing_given room e
      go Out e = out_given room e

pub ruleset search_laws =
    (nothing_left, found_left, found_few, found_room, found_answerable, refuses, tells, nothing_given, out_given, found_given_lem)

-- the checker: refused at a step, or accepted
stopped_given : (f : List ℕ) (conditions : Conditions) (offered : List ℕ) {why : engine.Refusal} {place : ℕ} (room : ℕ) → RefusedAs f conditions offered why place
    → check_given (table_in f) (length offered) room (check (setting_for f conditions) (read_steps (profile_of conditions.restarts) offered)) ≡ refused (status_for why) place 0
unfolding check_given
stopped_given f conditions offered room x = rw x.stops

module _ (f m : List ℕ) (question : ℕ) (conditions : Conditions) (offered : List ℕ) {v : Result ℕ Refused} (h : Decided f m question conditions offered v) where
  as-decided : {w : Result ℕ Refused} → v ≡ w → Decided f m question conditions offered w
  as-decided e = subst (λ (x : Result ℕ Refused). Decided f m question conditions offered x) e h

  pub accepted_answerable : {m₀ : List ℕ} {steps : ℕ} → Passed f m₀ question conditions.bound → v ≡ Ok steps → Answerable f m
  accepted_answerable p e = answerable f p.judged p.asked (as-decided e).ended

  pub refused_given : {refusal : Refused} {status : ℕ} (room : ℕ) → v ≡ Err refusal → status ≡ status_for refusal.why
      → check_given (table_in f) (length offered) room (check (setting_for f conditions) (read_steps (profile_of conditions.restarts) offered)) ≡ refused status refusal.place 0
  refused_given room e s = rw s (stopped_given f conditions offered room (as-decided e))

  pub accepted_given : {m₀ : List ℕ} {steps : ℕ} (room : ℕ) → Passed f m₀ question conditions.bound → v ≡ Ok steps
      → check_given (table_in f) (length offered) room (check (setting_for f conditions) (read_steps (profile_of conditions.restarts) offered)) ≡ held f m question steps [] 0 room
  unfolding check_given
  accepted_given {steps = steps} room p e =
      let x = as-decided e in
      rw (x.passes, ← x.count) (held_answered f p.judged p.asked x.ended steps [] 0 room)

pub check_by_verdict : (f m : List ℕ) (question : ℕ) (conditions : Conditions) (offered : List ℕ) (v : Result ℕ Refused) → Decided f m question conditions offered v
    → {m₀ : List ℕ} (room : ℕ) → Passed f m₀ question conditions.bound
    → check_given (table_in f) (length offered) room (check (setting_for f conditions) (read_steps (profile_of conditions.restarts) offered))
    ≡ by_verdict v (λ (steps : ℕ). held f m question steps [] 0 room)
check_by_verdict f m question conditions offered (Ok steps) h room p = accepted_given f m question conditions offered h room p refl
check_by_verdict f m question conditions offered (Err refusal) h room p = refused_given f m question conditions offered h room refl refl

-- the same words stand in a part of two lists
part_same : (n a : ℕ) (m m' : List ℕ) → a + n ≤ length m → length m' ≡ length m → ((i : ℕ) → a ≤ i → i < a + n → get_or m' i 0 ≡ get_or m i 0)
    → take n (drop a m') ≡ take n (drop a m)
part_same zero a m m' l e h = refl
part_same (suc n) a m m' l e h =
    rw (drop-cons m a 0 (omega arith), drop-cons m' a 0 (omega arith))
    (ap₂ ◌∷◌ (h a (omega arith) (omega arith)) (part_same n (suc a) m m' (omega arith) e (λ i b c. h i (omega arith) (omega arith))))

-- the answer fits, or does not
module _ {f m m' : List ℕ} {question room : ℕ} {fits : Bool} (h : Fits f m m' question room fits) where
  pub held_over : (steps : ℕ) (proof : List ℕ) (tries : ℕ) → not fits ≡ true → held f m question steps proof tries room ≡ refused 16 0 tries
  unfolding held
  held_over steps proof tries n = rw (← h.says, not-true fits n)

  held-fitting : (steps : ℕ) (proof : List ℕ) (tries : ℕ) → not fits ≡ false
      → held f m question steps proof tries room ≡ granted steps proof (length (disjuncts_kept f m')) (answer_held f m') tries
  unfolding held
  held-fitting steps proof tries n = rw (← h.says, not-false fits n, h.chose.once)

  pub fit_told : {r : Outcome} (steps tries : ℕ) (words proof : List ℕ) {proof' answer answer' : List ℕ} → not fits ≡ false
      → Told (granted steps [] (length (disjuncts_kept f m')) (answer_held f m') tries) r [] [] answer answer'
      → proof' ≡ at_front words proof → Told (held f m question steps words tries room) r proof proof' answer answer'
  fit_told steps tries words proof n t e = rw (held-fitting steps words tries n) (record { numbers = t.numbers; steps = e; words = t.words })

  -- the steps stand where they stood
  pub found_told : {r : Outcome} (steps tries : ℕ) (proof : List ℕ) {proof' answer answer' : List ℕ} → Answerable f m → steps ≤ most_leaves → not fits ≡ false
      → Told (granted steps [] (length (disjuncts_kept f m')) (answer_held f m') tries) r [] [] answer answer'
      → proof' ≡ at_front (take steps (drop step_places m')) proof → Told (held f m question steps (take steps (drop step_places m)) tries room) r proof proof' answer answer'
  found_told steps tries proof a few n t e =
      let same =
      part_same steps step_places m m' (omega (arith, a.good.size)) (h.chose.good.size ∙ sym a.good.size)
      (λ i b c. h.chose.leaves.words i (omega arith) (omega arith)) in
      fit_told steps tries (take steps (drop step_places m)) proof n t (e ∙ ap (λ (ws : List ℕ). at_front ws proof) same)

  pub chosen_answerable : Answerable f m → Answerable f m'
  chosen_answerable a =
      record { good = h.chose.good; unmarked = λ v l. h.chose.leaves.words (number_places + v) (omega arith) (omega arith) ∙ a.unmarked v l }

pub fit_writable : {f m m' : List ℕ} {question : ℕ} (a : List ℕ) {fits : Bool} → Fits f m m' question (length a) fits → not fits ≡ false
    → Answerable f m → Writable f m' a
fit_writable {f} {m} {m'} {question} a {fits} h n k =
    let l : length (words_of (disjuncts_held f m question)) ≤ room_of (length a) = leb-true _ _ (sym h.says ∙ not-false fits n) in
    let kept : length (answer_held f m') ≡ length (words_of (disjuncts_held f m question)) = ap (λ (ds : List (List (Literal Variable))). length (words_of ds)) h.chose.once in
    record { answerable = chosen_answerable h k; inside = omega arith; small = omega arith }

pub wrote_told : {f m a m' a' : List ℕ} {w : Answer} (proof tries : ℕ) → Answered f m a m' a' w
    → Told (granted proof [] (length (disjuncts_kept f m)) (answer_held f m) tries)
    (record { status = 0; place = 0; proof = proof; disjuncts = w.disjuncts; answer = w.words; tries = tries }) [] [] a a'
wrote_told proof tries h = record { numbers = rw (h.words, h.disjuncts); steps = refl; words = h.answer }

pub fits_over : {q : Option ℕ} {room : ℕ} (words needed : ℕ) → room ≡ room_of words → Counted room needed q → q ≡ None → false ≡ leb needed (room_of words)
fits_over {q} {room} words needed e counted o =
    let over : room < needed = subst (λ (x : Option ℕ). Counted room needed x) o counted in
    sym (lt-leb needed (room_of words) (omega arith))

pub fits_left : {q : Option ℕ} {room left : ℕ} (words needed : ℕ) → room ≡ room_of words → Counted room needed q → q ≡ Some left → true ≡ leb needed (room_of words)
fits_left {q} {room} {left} words needed e counted o =
    let over : left + needed ≡ room = subst (λ (x : Option ℕ). Counted room needed x) o counted in
    sym (le-leb needed (room_of words) (omega arith))

-- as the count of what was chosen ended
module _ {f m m' : List ℕ} {question : ℕ} (c : Chose f m m' question) (q : Option ℕ) {room : ℕ} (words : ℕ) (e : room ≡ room_of words) (counted : Counted room (length (answer_held f m')) q) where
  same_length : length (answer_held f m') ≡ length (words_of (disjuncts_held f m question))
  same_length = ap (λ (ds : List (List (Literal Variable))). length (words_of ds)) c.once

  pub chosen_over : q ≡ None → Fits f m m' question words false
  chosen_over o = record { chose = c; says = fits_over words _ e counted o ∙ ap (λ (n : ℕ). leb n (room_of words)) same_length }

  pub chosen_left : {left : ℕ} → q ≡ Some left → Fits f m m' question words true
  chosen_left o = record { chose = c; says = fits_left words _ e counted o ∙ ap (λ (n : ℕ). leb n (room_of words)) same_length }

pub held_by_room : (f m m' : List ℕ) (question steps : ℕ) (proof : List ℕ) (tries words : ℕ) (q : Option ℕ) → Chose f m m' question
    → Counted (room_of words) (length (answer_held f m')) q
    → held f m question steps proof tries words ≡ by_room q tries (granted steps proof (length (disjuncts_kept f m')) (answer_held f m') tries)
held_by_room f m m' question steps proof tries words (Some left) c counted = held-fitting (chosen_left c (Some left) words refl counted refl) steps proof tries refl
held_by_room f m m' question steps proof tries words None c counted = held_over (chosen_over c None words refl counted refl) steps proof tries refl

pub ruleset answer_laws = (refuses, held_over, fit_told, fit_writable, wrote_told)

-- the work past the door
pub all_passed : {f : List ℕ} {i : Inputs} (w : List ℕ) {question : ℕ} → Admitted f i → question ≡ (judge f).question → i.work ≡ length w
    → Passed f (take work_words w) question i.bound
all_passed w a asked enough = record { room = length-take-le work_words w (omega arith); judged = a.good_file; asked = asked; low = a.low_bound }

-- what a call tells by what it learns at the door, by any profile's rules
module _ (rules : Profile) (a : SearchAsked) {entry : Result ℕ Refusal} (says : entry ≡ entry_of a.file (inputs_by rules a)) where
  pub search_refused : {r : Refusal} → entry ≡ Err r → search_by rules a ≡ refused r.status r.place 0
  unfolding search_by
  search_refused e = shut a.file (inputs_by rules a) says e refused_by _

  pub search_admitted : {question : ℕ} → entry ≡ Ok question
      → search_by rules a ≡ search_given (over rules (table_in a.file) a.bound) a.answer_room (search_for (over rules (table_in a.file) a.bound) a.budget)
  unfolding search_by
  search_admitted e = inside (opened a.file (inputs_by rules a) says e) refused_by _

module _ (rules : Profile) (a : CheckAsked) {entry : Result ℕ Refusal} (says : entry ≡ entry_of a.file (check_inputs a)) where
  pub check_refused : {r : Refusal} → entry ≡ Err r → check_by rules a ≡ refused r.status r.place 0
  unfolding check_by
  check_refused e = shut a.file (check_inputs a) says e refused_by _

  pub check_admitted : {question : ℕ} → entry ≡ Ok question
      → check_by rules a
      ≡ check_given (table_in a.file) (length a.offered) a.answer_room (check (over rules (table_in a.file) a.bound) (read_steps rules a.offered))
  unfolding check_by
  check_admitted e = inside (opened a.file (check_inputs a) says e) refused_by _

-- by document 01's
pub base_search : (a : SearchAsked) → search_by every_leaf a ≡ search_call a
unfolding search_by search_call
base_search a = refl

pub base_check : (a : CheckAsked) → check_by every_leaf a ≡ check_call a
unfolding check_by check_call
base_check a = refl
