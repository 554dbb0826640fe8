-- Order 13's promises (specs/Promises.antt), proved of the report and of the single runs.
use mathlib.Core.Bool.{Bool, true, false, cond}
use mathlib.Core.List.{List, [], ◌∷◌, ◌++◌, map}
use mathlib.Core.Logic.{◌⊎◌, inl, inr, ◌≢◌}
use mathlib.Core.Option.{Option, none, some}
use mathlib.Core.Path.{◌≡◌, refl, sym, ap, ◌∙◌, subst}
use Prim.Native.Nat.{ℕ, zero, suc, ◌+◌, ◌*◌, ◌/◌, ◌%◌, ◌^◌, ◌≤◌, ◌<◌}
use native.Mathlib.Decide.{dec_lt, ℕ_discrete}
use native.Mathlib.Omega.{arith}
use borrow.Author.Tests.{le-leb, lt-leb, eq-eqb, eqb-true, ltb-false, not-false, lt-ltb, le-ltb}
use lib.Dec.{eqb}
use lib.ListN.{length, drop, replicate, length-append, length-map, length-replicate, length-drop}
use lib.Seq.{drop_at}
use Rattle.words.specs.Steps.{step_word}
use Rattle.table.specs.File.{judge, table_in}
use Rattle.table.specs.Limits.{Each, Within, Words}
use Rattle.table.specs.Decode.{clause_of}
use Rattle.table.proofs.AcceptedTable.{accepted_within}
use Rattle.table.proofs.BodyDecoding.{each_take}
use Rattle.table.proofs.Building.{front_long}
use Rattle.table.proofs.Encoding.{clause_decoded}
use Rattle.rules.specs.Growing.{Larger, Inserted}
use Rattle.rules.specs.Setting.{longest_proof, Setting}
use Rattle.rules.proofs.Demands.{proof_is_short}
use Rattle.hukolearu.specs.Door.{Fault, first_fault, checks, work_after, behind}
use Rattle.hukolearu.specs.Calls.{Given, SearchAsked, search_inputs, search_call, search_with, at_front}
use Rattle.hukolearu.specs.Says.{SearchAccepted, SearchSays, ran_out, none_found, found_fitting, found_too_long}
use Rattle.hukolearu.specs.CallDemands.{FoundStatus, search_status}
use Rattle.hukolearu.specs.declared.Outcome.{Outcome}
use Rattle.hukolearu.proofs.CallDemands.{search_says, never_none}
use Rattle.hukolearu.proofs.DoorLaws.{first_passes, rest_passes, not_refused, passed, admitted}
use Rattle.season.specs.Season.{Entry, entries_of, SeasonAsked, file_with, question_at, points_inside, single_asked, result_of, Run, ran, not_run, run_of, runs_of, one_if, how_many, tries_of, counted, proof_left, answer_left, entries_fit, season_fault, report_of, proof_after, answer_after, season_with}
use Rattle.season.specs.Promises as Promises
use Rattle.season.specs.Promises.{Reports, Single, Found, Buffers, left_by, ran_in, in_turn, words_of, with_entries, with_table, one_refused_more}
use Rattle.season.specs.declared.Report.{Report}
use Rattle.season.proofs.Results.{is_definite, is_indefinite, is_none, is_out, is_long, is_refused}
use Rattle.season.proofs.Questions.{Asks, with_asks, with_short, with_table_lem}
use Rattle.season.proofs.Tallying.{few_words}
use Rattle.season.proofs.Calls.{Input, fault_late, fault_positive, input_refused, refused_ran}

impossible : {A : Type 0} → true ≡ false → A
impossible e = let z : ◌≡◌ {A = ℕ} 1 0 = ap (λ (b : Bool). cond b 1 0) e in absurd (omega arith)

-- WHAT THE CHECKS SAY
pub record Accepts (a : SeasonAsked) : Type 0 where
  pub work : 16384 ≤ a.work_room
  pub proof : 199 ≤ a.proof_room
  pub table : (judge a.table).status ≡ 0
  pub entries : entries_fit (length a.entries) ≡ true

good_file : (right : Bool) (fault : Fault) → cond right none (some fault) ≡ none → right ≡ true
good_file true fault e = refl
good_file false fault e = let z : ◌≡◌ {A = ℕ} 0 1 = cc in absurd (omega arith)

pub accepts : (a : SeasonAsked) → Reports a → Accepts a
accepts a e =
    let e₂ = rest_passes _ _ e in
    let e₃ = rest_passes _ _ e₂ in
    let e₄ = rest_passes _ _ e₃ in
    record {
      work = ltb-false a.work_room 16384 (not_refused _ _ (first_passes _ _ e));
      proof = ltb-false a.proof_room 199 (not_refused _ _ (first_passes _ _ e₂));
      table = eqb-true (judge a.table).status 0 (good_file _ _ (first_passes _ _ e₃));
      entries = not-false (entries_fit (length a.entries)) (not_refused _ _ (first_passes _ _ e₄));
    }

reported : (a : SeasonAsked) → Reports a → report_of a ≡ counted (runs_of a)
unfolding report_of behind
reported a e = rw e

pub status_zero_exactly : Promises.StatusZeroExactly
unfolding report_of behind
status_zero_exactly a = (λ z. go (season_fault a) refl z, λ e. ap (λ (r : Report). r.status) (reported a e))
  where
    go : (x : Option Fault) → season_fault a ≡ x → (report_of a).status ≡ 0 → Reports a
    go none e z = e
    go (some fault) e z =
        let told : (report_of a).status ≡ fault.status = rw e in
        absurd (omega (arith, told, z, fault_positive a e))

-- THE COUNTS
one_each : (r : ℕ) → r ≤ 5 → one_if (eqb r 0) + one_if (eqb r 1) + one_if (eqb r 2) + one_if (eqb r 3) + one_if (eqb r 4) + one_if (eqb r 5) ≡ 1
one_each zero h = refl
one_each (suc zero) h = refl
one_each (suc (suc zero)) h = refl
one_each (suc (suc (suc zero))) h = refl
one_each (suc (suc (suc (suc zero)))) h = refl
one_each (suc (suc (suc (suc (suc zero))))) h = refl
one_each (suc (suc (suc (suc (suc (suc n)))))) h = absurd (omega arith)

choice_low : (b : Bool) (x y : ℕ) → x ≤ 5 → y ≤ 5 → cond b x y ≤ 5
choice_low true x y p q = p
choice_low false x y p q = q

result_low : (o : Outcome) → result_of o ≤ 5
unfolding result_of
result_low o =
    choice_low (eqb o.status 0) _ _ (choice_low (eqb o.disjuncts 1) _ _ (omega arith) (omega arith))
    (choice_low (eqb o.status 10) _ _ (omega arith)
    (choice_low (eqb o.status 11) _ _ (omega arith)
    (choice_low (eqb o.status 16) _ _ (omega arith) (omega arith))))

run_low : (a : SeasonAsked) (e : Entry) → (run_of a e).result ≤ 5
unfolding run_of
run_low a e = go (points_inside a.list e)
  where
    go : (b : Bool) → (cond b (ran (search_call (single_asked a e))) not_run).result ≤ 5
    go true = result_low (search_call (single_asked a e)).outcome
    go false = omega arith

all_counted : (a : SeasonAsked) (es : List Entry)
    → how_many 0 (map (run_of a) es) + how_many 1 (map (run_of a) es) + how_many 2 (map (run_of a) es) + how_many 3 (map (run_of a) es) + how_many 4 (map (run_of a) es) + how_many 5 (map (run_of a) es)
    ≡ length es
unfolding how_many
all_counted a [] = refl
all_counted a (e ∷ es) = omega (arith, one_each (run_of a e).result (run_low a e), all_counted a es)

pub six_add_up : Promises.SixAddUp
six_add_up a e = rw (reported a e) (all_counted a (entries_of a.entries))

pub each_is_counted : Promises.EachIsCounted
each_is_counted a e = rw (reported a e) (refl, refl, refl, refl, refl, refl, refl)

-- THE RESULTS
-- what an outcome shows
data Seen (o : Outcome) : Type 0 where
  as_definite : o.status ≡ 0 → o.disjuncts ≡ 1 → result_of o ≡ 0 → Seen o
  as_indefinite : o.status ≡ 0 → (o.disjuncts ≡ 1 → ⊥) → result_of o ≡ 1 → Seen o
  as_none : o.status ≡ 10 → result_of o ≡ 2 → Seen o
  as_out : o.status ≡ 11 → result_of o ≡ 3 → Seen o
  as_long : o.status ≡ 16 → result_of o ≡ 4 → Seen o
  as_other : (o.status ≡ 0 → ⊥) → result_of o ≡ 5 → Seen o

seen : (o : Outcome) → Seen o
seen o = first (ℕ_discrete o.status 0)
  where
    long : (o.status ≡ 0 → ⊥) → (o.status ≡ 10 → ⊥) → (o.status ≡ 11 → ⊥) → Dec (o.status ≡ 16) → Seen o
    long n m k (yes s) = as_long s (sym (is_long o n m k s))
    long n m k (no l) = as_other n (sym (is_refused o n m k l))

    out : (o.status ≡ 0 → ⊥) → (o.status ≡ 10 → ⊥) → Dec (o.status ≡ 11) → Seen o
    out n m (yes s) = as_out s (sym (is_out o n m s))
    out n m (no k) = long n m k (ℕ_discrete o.status 16)

    none_there : (o.status ≡ 0 → ⊥) → Dec (o.status ≡ 10) → Seen o
    none_there n (yes s) = as_none s (sym (is_none o n s))
    none_there n (no m) = out n m (ℕ_discrete o.status 11)

    one : o.status ≡ 0 → Dec (o.disjuncts ≡ 1) → Seen o
    one s (yes d) = as_definite s d (sym (is_definite o s d))
    one s (no d) = as_indefinite s d (sym (is_indefinite o s d))

    first : Dec (o.status ≡ 0) → Seen o
    first (yes s) = one s (ℕ_discrete o.disjuncts 1)
    first (no n) = none_there n (ℕ_discrete o.status 10)

module _ (a : SeasonAsked) (e : Entry) where
  pub inside_run : e.place + e.count ≤ length a.list → run_of a e ≡ ran (search_call (single_asked a e))
  unfolding run_of
  inside_run h = rw (le-leb (e.place + e.count) (length a.list) h)

  pub outside_run : length a.list < e.place + e.count → run_of a e ≡ not_run
  unfolding run_of
  outside_run h = rw (lt-leb (e.place + e.count) (length a.list) h)

  -- any result but the last is a run's
  record Runs (result : ℕ) : Type 0 where
    inside : e.place + e.count ≤ length a.list
    gives : result_of (search_call (single_asked a e)).outcome ≡ result

  a_run : (result : ℕ) → result < 5 → (run_of a e).result ≡ result → Runs result
  a_run result l h = go (dec_lt (length a.list) (e.place + e.count))
    where
      go : Dec (length a.list < e.place + e.count) → Runs result
      go (yes out) = let five : (run_of a e).result ≡ 5 = ap (λ (r : Run). r.result) (outside_run out) in absurd (omega arith)
      go (no n) =
          let there : e.place + e.count ≤ length a.list = omega arith in
          record { inside = there; gives = sym (ap (λ (r : Run). r.result) (inside_run there)) ∙ h }

  said : {status : ℕ} → Single a e status → {result : ℕ} → result ≡ result_of (search_call (single_asked a e)).outcome → (run_of a e).result ≡ result
  said s r = ap (λ (x : Run). x.result) (inside_run s.inside) ∙ sym r

  single : {result status : ℕ} → Runs result → search_status (single_asked a e) ≡ status → Single a e status
  single r s = record { inside = r.inside; status_is = s }

pub definite_exactly : Promises.DefiniteExactly
definite_exactly a e = (
  λ h. let r = a_run a e 0 (omega arith) h in go r (seen o),
  λ s. said a e s.0 (is_definite o s.0.status_is s.1),
)
  where
    o : Outcome
    o = (search_call (single_asked a e)).outcome

    go : Runs a e 0 → Seen o → Single a e 0 × (o.disjuncts ≡ 1)
    go r (as_definite s d is) = (single a e r s, d)
    go r (as_indefinite s d is) = absurd (omega (arith, r.gives, is))
    go r (as_none s is) = absurd (omega (arith, r.gives, is))
    go r (as_out s is) = absurd (omega (arith, r.gives, is))
    go r (as_long s is) = absurd (omega (arith, r.gives, is))
    go r (as_other n is) = absurd (omega (arith, r.gives, is))

pub indefinite_exactly : Promises.IndefiniteExactly
indefinite_exactly a e = (
  λ h. let r = a_run a e 1 (omega arith) h in go r (seen o),
  λ s. said a e s.0 (is_indefinite o s.0.status_is s.1),
)
  where
    o : Outcome
    o = (search_call (single_asked a e)).outcome

    go : Runs a e 1 → Seen o → Single a e 0 × (o.disjuncts ≢ 1)
    go r (as_definite s d is) = absurd (omega (arith, r.gives, is))
    go r (as_indefinite s d is) = (single a e r s, d)
    go r (as_none s is) = absurd (omega (arith, r.gives, is))
    go r (as_out s is) = absurd (omega (arith, r.gives, is))
    go r (as_long s is) = absurd (omega (arith, r.gives, is))
    go r (as_other n is) = absurd (omega (arith, r.gives, is))

pub none_exactly : Promises.NoneExactly
none_exactly a e = (
  λ h. let r = a_run a e 2 (omega arith) h in go r (seen o),
  λ s. said a e s (is_none o (λ z. omega (arith, s.status_is)) s.status_is),
)
  where
    o : Outcome
    o = (search_call (single_asked a e)).outcome

    go : Runs a e 2 → Seen o → Single a e 10
    go r (as_definite s d is) = absurd (omega (arith, r.gives, is))
    go r (as_indefinite s d is) = absurd (omega (arith, r.gives, is))
    go r (as_none s is) = single a e r s
    go r (as_out s is) = absurd (omega (arith, r.gives, is))
    go r (as_long s is) = absurd (omega (arith, r.gives, is))
    go r (as_other n is) = absurd (omega (arith, r.gives, is))

pub ran_out_exactly : Promises.RanOutExactly
ran_out_exactly a e = (
  λ h. let r = a_run a e 3 (omega arith) h in go r (seen o),
  λ s. said a e s (is_out o (λ z. omega (arith, s.status_is)) (λ z. omega (arith, s.status_is)) s.status_is),
)
  where
    o : Outcome
    o = (search_call (single_asked a e)).outcome

    go : Runs a e 3 → Seen o → Single a e 11
    go r (as_definite s d is) = absurd (omega (arith, r.gives, is))
    go r (as_indefinite s d is) = absurd (omega (arith, r.gives, is))
    go r (as_none s is) = absurd (omega (arith, r.gives, is))
    go r (as_out s is) = single a e r s
    go r (as_long s is) = absurd (omega (arith, r.gives, is))
    go r (as_other n is) = absurd (omega (arith, r.gives, is))

pub too_long_exactly : Promises.TooLongExactly
too_long_exactly a e = (
  λ h. let r = a_run a e 4 (omega arith) h in go r (seen o),
  λ s. said a e s (is_long o (λ z. omega (arith, s.status_is)) (λ z. omega (arith, s.status_is)) (λ z. omega (arith, s.status_is)) s.status_is),
)
  where
    o : Outcome
    o = (search_call (single_asked a e)).outcome

    go : Runs a e 4 → Seen o → Single a e 16
    go r (as_definite s d is) = absurd (omega (arith, r.gives, is))
    go r (as_indefinite s d is) = absurd (omega (arith, r.gives, is))
    go r (as_none s is) = absurd (omega (arith, r.gives, is))
    go r (as_out s is) = absurd (omega (arith, r.gives, is))
    go r (as_long s is) = single a e r s
    go r (as_other n is) = absurd (omega (arith, r.gives, is))

-- REFUSED
accepted_found : {S : Setting} {budget room : ℕ} {g : Given} → SearchSays S budget room g → result_of g.outcome ≡ 5 → ⊥
unfolding result_of
accepted_found (ran_out s l) e = omega arith
accepted_found (none_found s l) e = omega arith
accepted_found (found_fitting {count = count} s l c w f) e = go (eqb count 1) e
  where
    go : (b : Bool) → ◌≡◌ {A = ℕ} (cond b 0 1) 5 → ⊥
    go true h = omega arith
    go false h = omega arith
accepted_found (found_too_long s l c w f) e = omega arith

-- accepted, or refused with a fault's status and nothing written
data Judged (b : SearchAsked) : Type 0 where
  accepted_run : SearchAccepted b → Judged b
  refused_run : (SearchAccepted b → ⊥) → Input 3 (search_status b) → Judged b

fault_status : (b : SearchAsked) {fault : Fault} → first_fault (checks b.file (search_inputs b)) ≡ some fault → (search_call b).outcome.status ≡ fault.status
unfolding search_call behind
fault_status b e = rw e

judged : (b : SearchAsked) → 16384 ≤ b.work_room → 199 ≤ b.proof_room → Judged b
judged b w p = go (first_fault (checks b.file (search_inputs b))) refl
  where
    go : (x : Option Fault) → first_fault (checks b.file (search_inputs b)) ≡ x → Judged b
    go none e = accepted_run (passed b.file (search_inputs b) e)
    go (some fault) e =
        let late = fault_late b.file (search_inputs b) e w p in
        let is = fault_status b e in
        refused_run (λ ok. let z : ◌≡◌ {A = ℕ} 0 1 = cc (e, admitted b.file (search_inputs b) ok) in absurd (omega arith))
        (record { low = omega (arith, late.low, is); high = subst (λ (s : ℕ). (s ≤ 9) ⊎ (s ≡ 21)) (sym is) late.high })

of_input : {status : ℕ} → Input 3 status → Promises.RefusedInput status
of_input {status} i = go i.high
  where
    go : (status ≤ 9) ⊎ (status ≡ 21) → Promises.RefusedInput status
    go (inl h) = inl (i.low, h)
    go (inr h) = inr h

refused_by_input : (o : Outcome) → Promises.RefusedInput o.status → result_of o ≡ 5
refused_by_input o (inl h) = input_refused o (omega (arith, h.0)) (inl h.1)
refused_by_input o (inr h) = input_refused o (omega (arith, h)) (inr h)

pub refused_exactly : Promises.RefusedExactly
refused_exactly a reports e = (
  λ h. forth h (dec_lt (length a.list) (e.place + e.count)),
  back,
)
  where
    b : SearchAsked
    b = single_asked a e

    forth : (run_of a e).result ≡ 5 → Dec (length a.list < e.place + e.count)
        → (length a.list < e.place + e.count)
        ⊎ ((e.place + e.count ≤ length a.list) × Promises.RefusedInput (search_status (single_asked a e)))
    forth h (yes out) = inl out
    forth h (no n) = go (judged b (accepts a reports).work (accepts a reports).proof)
      where
        there : e.place + e.count ≤ length a.list
        there = omega arith

        go : Judged (single_asked a e) → (length a.list < e.place + e.count)
            ⊎ ((e.place + e.count ≤ length a.list) × Promises.RefusedInput (search_status (single_asked a e)))
        go (accepted_run ok) = absurd (accepted_found (search_says b ok) (sym (ap (λ (r : Run). r.result) (inside_run a e there)) ∙ h))
        go (refused_run no_run i) = inr (there, of_input i)

    back : (length a.list < e.place + e.count)
        ⊎ ((e.place + e.count ≤ length a.list) × Promises.RefusedInput (search_status (single_asked a e)))
        → (run_of a e).result ≡ 5
    back (inl out) = ap (λ (r : Run). r.result) (outside_run a e out)
    back (inr x) =
        ap (λ (r : Run). r.result) (inside_run a e x.0) ∙ refused_by_input (search_call (single_asked a e)).outcome x.1

pub tries_exactly : Promises.TriesExactly
tries_exactly a e = (λ h. ap (λ (r : Run). r.tries) (inside_run a e h), λ h. ap (λ (r : Run). r.tries) (outside_run a e h))

-- a refused entry leaves nothing
pub refused_nothing : (a : SeasonAsked) → 16384 ≤ a.work_room → 199 ≤ a.proof_room → (e : Entry) → (run_of a e).result ≡ 5 → run_of a e ≡ not_run
refused_nothing a w p e h = go (dec_lt (length a.list) (e.place + e.count))
  where
    go : Dec (length a.list < e.place + e.count) → run_of a e ≡ not_run
    go (yes out) = outside_run a e out
    go (no n) = there (judged (single_asked a e) w p)
      where
        in-it : run_of a e ≡ ran (search_call (single_asked a e))
        in-it = inside_run a e (omega arith)

        there : Judged (single_asked a e) → run_of a e ≡ not_run
        there (accepted_run ok) = absurd (accepted_found (search_says (single_asked a e) ok) (sym (ap (λ (r : Run). r.result) in-it) ∙ h))
        there (refused_run no_run i) = in-it ∙ refused_ran (single_asked a e) no_run

-- THE BUFFERS
short_said : {S : Setting} {budget room : ℕ} {g : Given} → Within S.table → S.bound ≤ 32 → SearchSays S budget room g
    → (length g.proof ≤ longest_proof S.profile) × (length g.answer ≤ room)
short_said within low (ran_out s l) = (omega arith, omega arith)
short_said within low (none_found s l) = (omega arith, omega arith)
short_said {S} within low (found_fitting {steps = steps} s l c w f) =
    (omega (arith, length-map steps step_word, proof_is_short S within low steps c), f)
short_said within low (found_too_long s l c w f) = (omega arith, omega arith)

-- what a search writes has room
search_short : (b : SearchAsked) → 16384 ≤ b.work_room → 199 ≤ b.proof_room
    → (length (search_call b).proof ≤ b.proof_room) × (length (search_call b).answer ≤ b.answer_room)
search_short b w p = go (judged b w p)
  where
    go : Judged b → (length (search_call b).proof ≤ b.proof_room) × (length (search_call b).answer ≤ b.answer_room)
    go (accepted_run ok) =
        let s = short_said (accepted_within b.file ok.good_file) ok.low_bound (search_says b ok) in
        (omega (arith, s.0), omega (arith, s.1))
    go (refused_run no_run i) =
        let r = refused_ran b no_run in
        (omega (arith, ap (λ (x : Run). length x.proof) r), omega (arith, ap (λ (x : Run). length x.answer) r))

-- zeroed once more, the work words are the same
pub work_long : (work : List ℕ) → length (work_after work) ≡ length work
unfolding work_after
work_long work = go (dec_lt (length work) 16384)
  where
    go : Dec (length work < 16384) → length (work_after work) ≡ length work
    go (yes l) = rw (lt-ltb (length work) 16384 l)
    go (no n) =
        rw (le-ltb (length work) 16384 (omega arith)) (omega (arith, length-append (replicate 16384 0) (drop 16384 work), length-replicate {A = ℕ} 16384 0, length-drop 16384 work))

work_again : (work : List ℕ) → work_after (work_after work) ≡ work_after work
unfolding work_after
work_again work = go (dec_lt (length work) 16384)
  where
    go : Dec (length work < 16384) → work_after (work_after work) ≡ work_after work
    go (yes l) = rw (lt-ltb (length work) 16384 l, lt-ltb (length work) 16384 l)
    go (no n) =
        let l : 16384 ≤ length work = omega arith in
        let k : 16384 ≤ length (replicate 16384 0 ++ drop 16384 work) = omega (arith, length-append (replicate 16384 0) (drop 16384 work), length-replicate {A = ℕ} 16384 0) in
        rw (le-ltb (length work) 16384 l, le-ltb (length (replicate 16384 0 ++ drop 16384 work)) 16384 k, drop_at (replicate 16384 0) (drop 16384 work) 16384 (length-replicate {A = ℕ} 16384 0))

-- buffers of the lengths that the season is lent
record Sized (a : SeasonAsked) (b : Buffers) : Type 0 where
  proof : length b.proof ≡ a.proof_room
  answer : length b.answer ≡ a.answer_room
  work : length b.work ≡ a.work_room

module _ (a : SeasonAsked) (w : 16384 ≤ a.work_room) (p : 199 ≤ a.proof_room) where
  same_asked : (e : Entry) (b : Buffers) → Sized a b
      → search_with (file_with a.table (question_at a.list e)) e.bound e.budget b.proof b.answer b.work ≡ single_asked a e
  same_asked e b s = rw (s.proof, s.answer, s.work)

  record Stepped (e : Entry) (b : Buffers) : Type 0 where
    sized : Sized a (ran_in a e b)
    proof : at_front (run_of a e).proof b.proof ≡ (ran_in a e b).proof
    answer : at_front (run_of a e).answer b.answer ≡ (ran_in a e b).answer
    work : work_after b.work ≡ work_after (ran_in a e b).work

  not_ran : (e : Entry) (b : Buffers) → length a.list < e.place + e.count → b ≡ ran_in a e b
  unfolding ran_in
  not_ran e b out = rw (lt-leb (e.place + e.count) (length a.list) out)

  ran_there : (e : Entry) (b : Buffers) → Sized a b → e.place + e.count ≤ length a.list → left_by (search_call (single_asked a e)) b ≡ ran_in a e b
  unfolding ran_in
  ran_there e b s there =
      rw (le-leb (e.place + e.count) (length a.list) there) (ap (λ (x : SearchAsked). left_by (search_call x) b) (sym (same_asked e b s)))

  stepped : (e : Entry) (b : Buffers) → Sized a b → Stepped e b
  stepped e b s = go (dec_lt (length a.list) (e.place + e.count))
    where
      go : Dec (length a.list < e.place + e.count) → Stepped e b
      go (yes out) =
          let r = not_ran e b out in
          let u = outside_run a e out in
          record {
            sized = subst (Sized a) r s;
            proof = ap (λ (x : Run). at_front x.proof b.proof) u ∙ ap (λ (x : Buffers). x.proof) r;
            answer = ap (λ (x : Run). at_front x.answer b.answer) u ∙ ap (λ (x : Buffers). x.answer) r;
            work = ap (λ (x : Buffers). work_after x.work) r;
          }
      go (no n) =
          let there : e.place + e.count ≤ length a.list = omega arith in
          let short = search_short (single_asked a e) w p in
          let r = ran_there e b s there in
          let u = inside_run a e there in
          let sized : Sized a (left_by (search_call (single_asked a e)) b) =
          record {
            proof = front_long (search_call (single_asked a e)).proof b.proof (omega (arith, short.0, s.proof)) ∙ s.proof;
            answer = front_long (search_call (single_asked a e)).answer b.answer (omega (arith, short.1, s.answer)) ∙ s.answer;
            work = work_long b.work ∙ s.work;
          } in
          record {
            sized = subst (Sized a) r sized;
            proof = ap (λ (x : Run). at_front x.proof b.proof) u ∙ ap (λ (x : Buffers). x.proof) r;
            answer = ap (λ (x : Run). at_front x.answer b.answer) u ∙ ap (λ (x : Buffers). x.answer) r;
            work = sym (work_again b.work) ∙ ap (λ (x : Buffers). work_after x.work) r;
          }

  turns : (es : List Entry) (b : Buffers) → Sized a b
      → (proof_left (map (run_of a) es) b.proof ≡ (in_turn a es b).proof) × (answer_left (map (run_of a) es) b.answer ≡ (in_turn a es b).answer)
      × (work_after b.work ≡ work_after (in_turn a es b).work)
  unfolding proof_left answer_left in_turn
  turns [] b s = (refl, refl, refl)
  turns (e ∷ es) b s =
      let x = stepped e b s in
      let rest = turns es (ran_in a e b) x.sized in (
        ap (λ (l : List ℕ). proof_left (map (run_of a) es) l) x.proof ∙ rest.0,
        ap (λ (l : List ℕ). answer_left (map (run_of a) es) l) x.answer ∙ rest.1,
        x.work ∙ rest.2,
      )

pub buffers_in_turn : Promises.BuffersInTurn
unfolding proof_after answer_after behind
buffers_in_turn table entries list proof answer work reports =
    let a = season_with table entries list proof answer work in
    let ok = accepts a reports in
    let t = turns a ok.work ok.proof (entries_of entries) (record { proof = proof; answer = answer; work = work }) (record { proof = refl; answer = refl; work = refl }) in
    (rw reports t.0, rw reports t.1, t.2)

-- ONE BAD QUESTION
entries_back : (es : List Entry) → entries_of (words_of es) ≡ es
unfolding entries_of words_of
entries_back [] = refl
entries_back (e ∷ es) = ap (λ (xs : List Entry). e ∷ xs) (entries_back es)

words_long : (es : List Entry) → length (words_of es) ≡ 4 * length es
unfolding words_of
words_long [] = refl
words_long (e ∷ es) = omega (arith, words_long es)

few_fit : (es : List Entry) → length es ≤ 4096 → entries_fit (length (words_of es)) ≡ true
unfolding entries_fit
few_fit es h =
    rw (eq-eqb (length (words_of es) % 4) 0 (omega (arith, words_long es)), le-leb (length (words_of es) / 4) 4096 (omega (arith, words_long es)))

pub accepted_reports : (a : SeasonAsked) → Accepts a → Reports a
unfolding first_fault
accepted_reports a h =
    rw (le-ltb a.work_room 16384 h.work, le-ltb a.proof_room 199 h.proof, eq-eqb (judge a.table).status 0 h.table, h.entries)

module _ (a : SeasonAsked) (bad : Entry) (nothing_ran : run_of a bad ≡ not_run) where
  count-without : (r : ℕ) (before after : List Entry)
      → how_many r (map (run_of a) (before ++ (bad ∷ after))) ≡ one_if (eqb 5 r) + how_many r (map (run_of a) (before ++ after))
  unfolding how_many
  count-without r [] after = rw nothing_ran
  count-without r (e ∷ es) after =
      let rest = count-without r es after in
      let one : ℕ = one_if (eqb (run_of a e).result r) in
      omega arith

  tries-without : (before after : List Entry) → tries_of (map (run_of a) (before ++ (bad ∷ after))) ≡ tries_of (map (run_of a) (before ++ after))
  unfolding tries_of
  tries-without [] after = rw nothing_ran (omega arith)
  tries-without (e ∷ es) after = ap (λ (n : ℕ). (run_of a e).tries + n) (tries-without es after)

  proof-without : (before after : List Entry) (proof : List ℕ)
      → proof_left (map (run_of a) (before ++ (bad ∷ after))) proof ≡ proof_left (map (run_of a) (before ++ after)) proof
  unfolding proof_left
  proof-without [] after proof = rw nothing_ran
  proof-without (e ∷ es) after proof = proof-without es after (at_front (run_of a e).proof proof)

  answer-without : (before after : List Entry) (answer : List ℕ)
      → answer_left (map (run_of a) (before ++ (bad ∷ after))) answer ≡ answer_left (map (run_of a) (before ++ after)) answer
  unfolding answer_left
  answer-without [] after answer = rw nothing_ran
  answer-without (e ∷ es) after answer = answer-without es after (at_front (run_of a e).answer answer)

  counted-without : (before after : List Entry)
      → counted (map (run_of a) (before ++ (bad ∷ after))) ≡ one_refused_more (counted (map (run_of a) (before ++ after)))
  counted-without before after =
      let more : (r : ℕ) → how_many r (map (run_of a) (before ++ (bad ∷ after))) ≡ one_if (eqb 5 r) + how_many r (map (run_of a) (before ++ after)) =
      λ r. count-without r before after in
      let none_more : (n : ℕ) → 0 + n ≡ n = λ n. omega arith in
      let rest : ℕ → ℕ = λ r. how_many r (map (run_of a) (before ++ after)) in
      λ i. record {
        status = 0;
        place = 0;
        definite = (more 0 ∙ none_more (rest 0)) i;
        indefinite = (more 1 ∙ none_more (rest 1)) i;
        none = (more 2 ∙ none_more (rest 2)) i;
        ranout = (more 3 ∙ none_more (rest 3)) i;
        toolong = (more 4 ∙ none_more (rest 4)) i;
        refused = more 5 i;
        tries = tries-without before after i;
      }

same_runs : (a : SeasonAsked) (es fs : List Entry) → map (run_of (with_entries a es)) fs ≡ map (run_of a) fs
unfolding run_of
same_runs a es [] = refl
same_runs a es (f ∷ fs) = ap (λ (rs : List Run). run_of a f ∷ rs) (same_runs a es fs)

runs_with : (a : SeasonAsked) (es : List Entry) → runs_of (with_entries a es) ≡ map (run_of a) es
runs_with a es = ap (λ (fs : List Entry). map (run_of (with_entries a es)) fs) (entries_back es) ∙ same_runs a es es

pub bad_changes_nothing : Promises.BadChangesNothing
unfolding proof_after answer_after behind
bad_changes_nothing a before after bad reports r =
    let ok = accepts (with_entries a (before ++ (bad ∷ after))) reports in
    let few : length (before ++ after) ≤ 4096 =
    omega (arith, few_words (length (words_of (before ++ (bad ∷ after)))) ok.entries, words_long (before ++ (bad ∷ after)), length-append before (bad ∷ after), length-append before after) in
    let reports' : Reports (with_entries a (before ++ after)) =
    accepted_reports (with_entries a (before ++ after)) (record { work = ok.work; proof = ok.proof; table = ok.table; entries = few_fit (before ++ after) few }) in
    let nothing-there = refused_nothing a ok.work ok.proof bad r in
    let all = runs_with a (before ++ (bad ∷ after)) in
    let rest = runs_with a (before ++ after) in (
      reported (with_entries a (before ++ (bad ∷ after))) reports ∙ ap counted all ∙ counted-without a bad nothing-there before after
          ∙ ap one_refused_more (sym (reported (with_entries a (before ++ after)) reports' ∙ ap counted rest)),
      λ proof. rw (reports, reports', all, rest) (proof-without a bad nothing-there before after proof),
      λ answer. rw (reports, reports', all, rest) (answer-without a bad nothing-there before after answer),
    )

-- A LARGER TABLE
each_drop : {A : Type 0} (P : A → Type 0) (n : ℕ) (xs : List A) → Each P xs → Each P (drop n xs)
unfolding Each
each_drop P zero xs h = h
each_drop P (suc n) [] h = h
each_drop P (suc n) (x ∷ xs) h = each_drop P n xs h.1

found_status : (o : Outcome) → Found (result_of o) → FoundStatus o.status
found_status o f = go (seen o) f
  where
    go : Seen o → Found (result_of o) → FoundStatus o.status
    go (as_definite s d is) h = inl s
    go (as_indefinite s d is) h = inl s
    go (as_none s is) (inl h) = absurd (omega arith)
    go (as_none s is) (inr (inl h)) = absurd (omega arith)
    go (as_none s is) (inr (inr h)) = absurd (omega arith)
    go (as_out s is) (inl h) = absurd (omega arith)
    go (as_out s is) (inr (inl h)) = absurd (omega arith)
    go (as_out s is) (inr (inr h)) = absurd (omega arith)
    go (as_long s is) h = inr s
    go (as_other n is) (inl h) = absurd (omega arith)
    go (as_other n is) (inr (inl h)) = absurd (omega arith)
    go (as_other n is) (inr (inr h)) = absurd (omega arith)

status_found : (o : Outcome) → FoundStatus o.status → Found (result_of o)
status_found o f = go (seen o) f
  where
    go : Seen o → FoundStatus o.status → Found (result_of o)
    go (as_definite s d is) h = inl is
    go (as_indefinite s d is) h = inr (inl is)
    go (as_none s is) (inl h) = absurd (omega arith)
    go (as_none s is) (inr h) = absurd (omega arith)
    go (as_out s is) (inl h) = absurd (omega arith)
    go (as_out s is) (inr h) = absurd (omega arith)
    go (as_long s is) h = inr (inr is)
    go (as_other n is) (inl h) = absurd (n h)
    go (as_other n is) (inr h) = inr (inr (sym (is_long o n (λ z. omega arith) (λ z. omega arith) h)))

not_found : Found 5 → ⊥
not_found (inl h) = omega arith
not_found (inr (inl h)) = omega arith
not_found (inr (inr h)) = omega arith

one_clause : {question : List ℕ} (p q : Asks question) → p.clause ≡ q.clause
one_clause p q =
    sym (clause_decoded p.clause p.within) ∙ ap (λ (ws : List ℕ). clause_of ws) (sym p.words ∙ q.words) ∙ clause_decoded q.clause q.within

module _ (a : SeasonAsked) (larger : List ℕ) (own : Words a.table) (other : Words larger) (list : Words a.list)
    (reports : Reports a) (reports' : Reports (with_table a larger)) (inserted : Inserted (table_in a.table).clauses (table_in larger).clauses) (e : Entry) where
  asked-words : Words (question_at a.list e)
  asked-words = each_take (λ (w : ℕ). w < 2 ^ 32) e.count (drop e.place a.list) (each_drop (λ (w : ℕ). w < 2 ^ 32) e.place a.list list)

  grown : SearchAccepted (single_asked a e) → SearchAccepted (single_asked (with_table a larger) e)
      → Larger (table_in (file_with a.table (question_at a.list e))) (table_in (file_with larger (question_at a.list e)))
  grown ok ok' =
      let q = question_at a.list e in
      let z = (accepts a reports).table in
      let z' = (accepts (with_table a larger) reports').table in
      let here = with_asks a.table own z q asked-words ok.good_file in
      let there = with_asks larger other z' q asked-words ok'.good_file in
      rw (with_table_lem a.table own z q here (with_short a.table own z q asked-words ok.good_file), with_table_lem larger other z' q there (with_short larger other z' q asked-words ok'.good_file))
      (record { clauses = inserted; question = one_clause here there })

  still : SearchAccepted (single_asked (with_table a larger) e) → e.place + e.count ≤ length a.list → SearchAccepted (single_asked a e)
      → FoundStatus (search_status (single_asked a e))
      → Found (run_of (with_table a larger) e).result ⊎ ((run_of (with_table a larger) e).result ≡ 3)
  still ok' there ok f = go (never_none (single_asked a e) (single_asked (with_table a larger) e) ok ok' (grown ok ok') (omega arith) f)
    where
      o : Outcome
      o = (search_call (single_asked (with_table a larger) e)).outcome

      same : (run_of (with_table a larger) e).result ≡ result_of (search_call (single_asked (with_table a larger) e)).outcome
      same = ap (λ (r : Run). r.result) (inside_run (with_table a larger) e there)

      go : FoundStatus (search_status (single_asked (with_table a larger) e)) ⊎ (search_status (single_asked (with_table a larger) e) ≡ 11)
          → Found (run_of (with_table a larger) e).result ⊎ ((run_of (with_table a larger) e).result ≡ 3)
      go (inl found) = inl (subst Found (sym same) (status_found o found))
      go (inr out) = inr (same ∙ sym (is_out o (λ z. omega arith) (λ z. omega arith) out))

pub nothing_taken_back : Promises.NothingTakenBack
nothing_taken_back a larger own other list reports reports' inserted e ok' f = go (dec_lt (length a.list) (e.place + e.count))
  where
    go : Dec (length a.list < e.place + e.count) → Found (run_of (with_table a larger) e).result ⊎ ((run_of (with_table a larger) e).result ≡ 3)
    go (yes out) = absurd (not_found (subst Found (ap (λ (r : Run). r.result) (outside_run a e out)) f))
    go (no n) = here (judged (single_asked a e) (accepts a reports).work (accepts a reports).proof)
      where
        there : e.place + e.count ≤ length a.list
        there = omega arith

        in-it : run_of a e ≡ ran (search_call (single_asked a e))
        in-it = inside_run a e there

        here : Judged (single_asked a e) → Found (run_of (with_table a larger) e).result ⊎ ((run_of (with_table a larger) e).result ≡ 3)
        here (accepted_run ok) =
            still a larger own other list reports reports' inserted e ok' there ok
            (found_status (search_call (single_asked a e)).outcome (subst Found (ap (λ (r : Run). r.result) in-it) f))
        here (refused_run no_run i) =
            absurd (not_found (subst Found (ap (λ (r : Run). r.result) (in-it ∙ refused_ran (single_asked a e) no_run)) f))
