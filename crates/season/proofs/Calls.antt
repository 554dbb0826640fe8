-- What the call gives by what it learns at the door; and what the code finds of an entry is its single run.
use mathlib.Core.Bool.{Bool, true, false, cond, not}
use mathlib.Core.List.{List, [], ◌∷◌, map}
use mathlib.Core.Logic.{◌⊎◌, inl, inr}
use mathlib.Core.Option.{Option, none, some}
use mathlib.Core.Path.{◌≡◌, refl, sym, ap, ◌∙◌}
use Prim.Native.Nat.{ℕ, ◌≤◌}
use native.Mathlib.Decide.{ℕ_discrete}
use native.Mathlib.Omega.{arith}
use borrow.Author.Tests.{le-leb, le-ltb, eq-eqb, ne_eqb, leb-true, eqb-true, not-true, not-false}
use lib.Dec.{leb, ltb}
use lib.ListN.{length}
use Rattle.table.specs.Body.{body_fault, any_positive}
use Rattle.table.specs.File.{body_of, size_fits, trailer_fits, fingerprint_fits, clauses_fit, question_words, question_restricted, judge_read, judge_body, judge}
use Rattle.table.specs.Limits.{Each}
use Rattle.table.specs.declared.Judgement.{Judgement}
use Rattle.table.proofs.Bools.{and_left, and_right}
use Rattle.hukolearu.specs.Door.{Fault, Check, refused_if, first_fault, checks, behind, Admitted, entry_of, work_check, proof_check, bound_check, file_check}
use Rattle.hukolearu.specs.Calls.{refused_by, SearchAsked, search_inputs, search_call}
use Rattle.hukolearu.specs.Says.{SearchAccepted}
use Rattle.hukolearu.specs.declared.Outcome.{Outcome}
use Rattle.std.specs.Prelude.{Result, Ok, Err}
use Rattle.hukolearu.specs.declared.door.Refusal.{Refusal}
use Rattle.hukolearu.specs.declared.door.Inputs.{Inputs}
use Rattle.hukolearu.proofs.DoorLaws.{passed, opened, admitted, fault_met, further_checks, refused_before}
use Rattle.hukolearu.proofs.Says.{search_accepted}
use Rattle.season.specs.Season.{Entry, entries_of, SeasonAsked, file_with, question_at, points_inside, single_asked, result_of, Run, ran, not_run, run_of, counted, proof_left, answer_left, entries_fit, entries_check, season_fault, refused_report, report_of, proof_after, answer_after}
use Rattle.season.specs.Asking.{admits, question_run, entry_run, Reported}
use Rattle.season.specs.declared.Report.{Report}
use Rattle.season.proofs.Results.{is_refused}

-- A STATUS OF THE CHECKS OF INPUT
pub record Input (least status : ℕ) : Type 0 where
  pub low : least ≤ status
  pub high : (status ≤ 9) ⊎ (status ≡ 21)

input : (least status : ℕ) → least ≤ status → status ≤ 9 → Input least status
input least status l h = record { low = l; high = inl h }

-- the file's own: 0, 4 to 9, or 21
abbrev OwnStatus : Judgement → Type 0
OwnStatus j = (j.status ≡ 0 → ⊥) → Input 1 j.status × Input 3 j.status

both : (status : ℕ) → 3 ≤ status → status ≤ 9 → Input 1 status × Input 3 status
both status l h = (input 1 status (omega arith) h, input 3 status l h)

own_choice : (b : Bool) (x y : Judgement) → OwnStatus x → OwnStatus y → OwnStatus (cond b x y)
own_choice true x y p q = p
own_choice false x y p q = q

own_read : (file : List ℕ) (o : Option ℕ) → OwnStatus (judge_read file o)
unfolding judge_read
own_read file (some place) = λ n. both 7 (omega arith) (omega arith)
own_read file none =
    own_choice (clauses_fit file) _ _
    (own_choice (any_positive (question_words file)) _ _ (λ n. both 9 (omega arith) (omega arith))
    (own_choice (question_restricted file) _ _ (λ n. (record { low = omega arith; high = inr refl }, record { low = omega arith; high = inr refl })) (λ n. absurd (n refl))))
    (λ n. both 8 (omega arith) (omega arith))

own_status : (file : List ℕ) → OwnStatus (judge file)
unfolding judge judge_body
own_status file =
    own_choice (size_fits file) _ _
    (own_choice (trailer_fits file) _ _
    (own_choice (fingerprint_fits file) _ _ (own_read file (body_fault 0 0 (body_of file))) (λ n. both 6 (omega arith) (omega arith)))
    (λ n. both 5 (omega arith) (omega arith)))
    (λ n. both 4 (omega arith) (omega arith))

-- the first fault of the checks has such a status
unfoldable Sound : ℕ → Check → Type 0
Sound least none = Unit {0}
Sound least (some fault) = Input least fault.status

sound_if : (least : ℕ) (b : Bool) (status : ℕ) → Input least status → Sound least (refused_if b status)
unfolding Sound
sound_if least true status h = h
sound_if least false status h = tt

sound_file : (file : List ℕ) → Sound 1 (file_check file) × Sound 3 (file_check file)
unfolding Sound
sound_file file = go (ℕ_discrete (judge file).status 0)
  where
    go : Dec ((judge file).status ≡ 0) → Sound 1 (file_check file) × Sound 3 (file_check file)
    go (yes z) = rw (eq-eqb (judge file).status 0 z) (tt, tt)
    go (no n) = rw (ne_eqb (judge file).status 0 n) (own_status file n)

first_sound : (least : ℕ) (cs : List Check) → Each (Sound least) cs → {fault : Fault} → first_fault cs ≡ some fault → Input least fault.status
unfolding Each Sound first_fault
first_sound least [] h e = let z : ◌≡◌ {A = ℕ} 0 1 = cc in absurd (omega arith)
first_sound least (none ∷ cs) h e = first_sound least cs h.1 e
first_sound least (some f ∷ cs) h {fault} e = let same : f.status ≡ fault.status = cc in rw (← same) h.0

module _ (file : List ℕ) (i : Inputs) {fault : Fault} (e : first_fault (checks file i) ≡ some fault) where
  pub fault_input : Input 1 fault.status
  unfolding Each
  fault_input =
      first_sound 1 (checks file i)
      (sound_if 1 (ltb i.work 16384) 1 (input 1 1 (omega arith) (omega arith)), (sound_if 1 (ltb i.proof i.least) 2 (input 1 2 (omega arith) (omega arith)), (sound_if 1 (ltb 32 i.bound) 3 (input 1 3 (omega arith) (omega arith)), ((sound_file file).0, tt))))
      e

  -- with buffers that are long enough, the bound's or the file's
  pub fault_late : 16384 ≤ i.work → i.least ≤ i.proof → Input 3 fault.status
  unfolding Each first_fault
  fault_late w p =
      first_sound 3 (bound_check i.bound ∷ file_check file ∷ [])
      (sound_if 3 (ltb 32 i.bound) 3 (input 3 3 (omega arith) (omega arith)), ((sound_file file).1, tt))
      (rw (le-ltb i.work 16384 w, le-ltb i.proof i.least p) at e)

-- THE SINGLE RUN
false_true : {A : Type 0} → false ≡ true → A
false_true e = let z : ◌≡◌ {A = ℕ} 0 1 = ap (λ (b : Bool). cond b 1 0) e in absurd (omega arith)

pub input_refused : (o : Outcome) → 1 ≤ o.status → (o.status ≤ 9) ⊎ (o.status ≡ 21) → result_of o ≡ 5
input_refused o l (inl h) = sym (is_refused o (λ e. omega arith) (λ e. omega arith) (λ e. omega arith) (λ e. omega arith))
input_refused o l (inr h) = sym (is_refused o (λ e. omega arith) (λ e. omega arith) (λ e. omega arith) (λ e. omega arith))

pub refused_ran : (a : SearchAsked) → (SearchAccepted a → ⊥) → ran (search_call a) ≡ not_run
unfolding search_call behind
refused_ran a n = go (first_fault (checks a.file (search_inputs a))) refl
  where
    go : (x : Option Fault) → first_fault (checks a.file (search_inputs a)) ≡ x → ran (search_call a) ≡ not_run
    go none e = absurd (n (passed a.file (search_inputs a) e))
    go (some fault) e =
        let i = fault_input a.file (search_inputs a) e in
        let result = input_refused (refused_by fault).outcome i.low i.high in
        rw e (λ i. record { result = result i; tries = 0; proof = []; answer = [] })

module _ (a : SeasonAsked) (work : 16384 ≤ a.work_room) (proof : 199 ≤ a.proof_room) where
  question-run : (e : Entry) → question_run a.table (question_at a.list e) a.answer_room e.bound e.budget ≡ ran (search_call (single_asked a e))
  unfolding question_run admits
  question-run e = go (admits a.table (question_at a.list e) e.bound) refl
    where
      go : (b : Bool) → admits a.table (question_at a.list e) e.bound ≡ b
          → question_run a.table (question_at a.list e) a.answer_room e.bound e.budget ≡ ran (search_call (single_asked a e))
      go true is =
          let ok : SearchAccepted (single_asked a e) =
          record {
            enough_work = work;
            enough_proof = proof;
            low_bound = leb-true e.bound 32 (and_left (leb e.bound 32) _ is);
            good_file = eqb-true _ 0 (and_right (leb e.bound 32) _ is);
          } in
          rw is (ap ran (sym (search_accepted (single_asked a e) ok)))
      go false is =
          let refuses : SearchAccepted (single_asked a e) → ⊥ =
          λ ok. false_true (sym is ∙ rw (le-leb e.bound 32 ok.low_bound, eq-eqb (judge (file_with a.table (question_at a.list e))).status 0 ok.good_file)) in
          rw is (sym (refused_ran (single_asked a e) refuses))

  entry_run_is : (e : Entry) → entry_run a.table a.list a.answer_room e ≡ run_of a e
  unfolding entry_run run_of
  entry_run_is e = ap (λ (r : Run). cond (points_inside a.list e) r not_run) (question-run e)

  same_runs : (es : List Entry) → map (entry_run a.table a.list a.answer_room) es ≡ map (run_of a) es
  same_runs [] = refl
  same_runs (e ∷ es) = λ i. entry_run_is e i ∷ same_runs es i

-- THE CALL
abbrev season_inputs : SeasonAsked → Inputs
season_inputs a = record { bound = 0; work = a.work_room; proof = a.proof_room; least = 199 }

without_third : (w p : Check) (cs : List Check) → first_fault (w ∷ p ∷ none ∷ cs) ≡ first_fault (w ∷ p ∷ cs)
unfolding first_fault
without_third none none cs = refl
without_third none (some f) cs = refl
without_third (some f) p cs = refl

abbrev own_checks : SeasonAsked → List Check
own_checks a = work_check a.work_room ∷ proof_check 199 a.proof_room ∷ file_check a.table ∷ []

own_checks_lem : (a : SeasonAsked) → first_fault (checks a.table (season_inputs a)) ≡ first_fault (own_checks a)
own_checks_lem a = without_third (work_check a.work_room) (proof_check 199 a.proof_room) (file_check a.table ∷ [])

-- a refusal's status is not 0
pub fault_positive : (a : SeasonAsked) {fault : Fault} → season_fault a ≡ some fault → 1 ≤ fault.status
unfolding first_fault
fault_positive a {fault} e = own (first_fault (checks a.table (season_inputs a))) refl
  where
    entries : (wrong : Bool) → first_fault (refused_if wrong 23 ∷ []) ≡ some fault → 1 ≤ fault.status
    entries true f = let s : 23 ≡ fault.status = cc in omega arith
    entries false f = let z : ◌≡◌ {A = ℕ} 0 1 = cc in absurd (omega arith)

    own : (x : Option Fault) → first_fault (checks a.table (season_inputs a)) ≡ x → 1 ≤ fault.status
    own none n =
        entries (not (entries_fit (length a.entries))) (sym (further_checks (own_checks a) (entries_check a.entries ∷ []) (sym (own_checks_lem a) ∙ n)) ∙ e)
    own (some first) f =
        let same : some first ≡ some fault = sym (refused_before (own_checks a) (entries_check a.entries ∷ []) (sym (own_checks_lem a) ∙ f)) ∙ e in
        let s : first.status ≡ fault.status = cc in
        omega (arith, s, (fault_input a.table (season_inputs a) f).low)

pub record Gives (a : SeasonAsked) (report : Report) (proof proof' answer answer' : List ℕ) : Type 0 where
  pub numbers : report ≡ report_of a
  pub steps : proof' ≡ proof_after a proof
  pub words : answer' ≡ answer_after a answer

gives_fault : (a : SeasonAsked) {status place : ℕ} → season_fault a ≡ some (record { status = status; place = place }) → {report : Report}
    → report ≡ refused_report status place → (proof answer : List ℕ) → Gives a report proof proof answer answer
unfolding report_of proof_after answer_after behind
gives_fault a e r proof answer = record { numbers = r ∙ rw e; steps = rw e; words = rw e }

module _ (a : SeasonAsked) {entry : Result ℕ Refusal} (says : entry ≡ entry_of a.table (season_inputs a)) where
  pub gives_refusal : {refusal : Refusal} → entry ≡ Err refusal → {report : Report} → report ≡ refused_report refusal.status refusal.place
      → (proof answer : List ℕ) → Gives a report proof proof answer answer
  gives_refusal e =
      gives_fault a
      (refused_before (own_checks a) (entries_check a.entries ∷ [])
      (sym (own_checks_lem a) ∙ fault_met a.table (season_inputs a) says e))

  module _ {question : ℕ} (e : entry ≡ Ok question) where
    pub let_in : Admitted a.table (season_inputs a)
    let_in = opened a.table (season_inputs a) says e

    last-check : season_fault a ≡ first_fault (entries_check a.entries ∷ [])
    last-check =
        further_checks (own_checks a) (entries_check a.entries ∷ [])
        (sym (own_checks_lem a) ∙ admitted a.table (season_inputs a) let_in)

    module _ {b : Bool} (fits : b ≡ entries_fit (length a.entries)) where
      pub gives_wrong_entries : not b ≡ true → {report : Report} → report ≡ refused_report 23 0 → (proof answer : List ℕ) → Gives a report proof proof answer answer
      unfolding first_fault
      gives_wrong_entries n = gives_fault a (last-check ∙ rw (← fits, not-true b n))

      pub entries_right : not b ≡ false → entries_fit (length a.entries) ≡ true
      entries_right n = sym fits ∙ not-false b n

      pub gives_report : not b ≡ false → {report : Report} {proof proof' answer answer' : List ℕ} → a.answer_room ≡ length answer
          → Reported a.table a.entries a.list report proof proof' answer answer' → Gives a report proof proof' answer answer'
      unfolding first_fault report_of proof_after answer_after behind
      gives_report n {proof = proof} {answer = answer} room r =
          let none_found : season_fault a ≡ none = last-check ∙ rw (← fits, not-false b n) in
          let runs = same_runs a let_in.enough_work let_in.enough_proof (entries_of a.entries) in
          record {
            numbers = rw none_found (r.numbers ∙ rw (← room) (ap counted runs));
            steps = rw none_found (r.steps ∙ rw (← room) (ap (λ (rs : List Run). proof_left rs proof) runs));
            words = rw none_found (r.words ∙ rw (← room) (ap (λ (rs : List Run). answer_left rs answer) runs));
          }
