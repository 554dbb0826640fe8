-- The door's laws: what it says by each check, that it opens exactly where all are passed, what a call then gives, and the work words at the end.
-- What a call above it needs: `opened`, `at-question`, `shut`, `inside`, `work-left`; with checks of its own, `further-checks`, `fault-met`, `refused-before`.
use mathlib.Core.Bool.{Bool, true, false, cond}
use mathlib.Core.List.{List, [], ◌∷◌, ◌++◌}
use mathlib.Core.Option.{Option, none, some}
use mathlib.Core.Path.{◌≡◌, refl, sym, ap, ◌∙◌}
use Prim.Native.Nat.{ℕ, ◌-◌, ◌≤◌, ◌<◌}
use native.Mathlib.Omega.{arith}
use borrow.Author.Tests.{lt-ltb, le-ltb, ltb-false, eq-eqb, ne_eqb, eqb-true}
use mir.Syntax.{w32}
use mir.Val.{Fits}
use lib.ListN.{length, take, drop, replicate, length-append}
use lib.Seq.{drop_at, length-take-le}
use Rattle.table.specs.Decode.{clause_of}
use Rattle.table.specs.File.{judge, table_in}
use Rattle.table.specs.declared.Judgement.{Judgement}
use Rattle.table.proofs.Accepted.{accepted}
use Rattle.table.proofs.AcceptedTable.{body_readable, question_start}
use Rattle.unification.specs.State.{own_words, ClauseAt}
use Rattle.engine.proofs.Literals.Places.{question_placed}
use Rattle.hukolearu.specs.Door.{Fault, Check, refused_if, first_fault, checks, behind, Admitted, placeless, entry_by, entry_of, work_after, least_work}
use Rattle.std.specs.Prelude.{Result, Ok, Err}
use Rattle.hukolearu.specs.declared.door.Refusal.{Refusal}
use Rattle.hukolearu.specs.declared.door.Inputs.{Inputs}

-- the question of an accepted file
pub question_stands : (f : List ℕ) → (judge f).status ≡ 0 → {question : ℕ} → question ≡ (judge f).question
    → ClauseAt f question × (clause_of (own_words f question) ≡ (table_in f).question)
question_stands f judged asked =
    rw asked (rw (question_start f judged) at (question_placed f (length f - 4) (omega arith) (body_readable f judged)))

pub small_question : (f : List ℕ) {j : Judgement} → j ≡ judge f → j.status ≡ 0 → Fits w32 j.question
small_question f {j} e z =
    let judged : (judge f).status ≡ 0 = cc in
    let asked : j.question ≡ (judge f).question = cc in
    omega (arith, (question_stands f judged asked).0.inside, (accepted f judged).most)

-- check by check
module _ (f : List ℕ) (i : Inputs) where
  pub little_work : i.work < least_work → Err (placeless 1) ≡ entry_of f i
  unfolding first_fault
  little_work w = rw (lt-ltb i.work least_work w)

  module _ (work : least_work ≤ i.work) where
    pub little_proof : i.proof < i.least → Err (placeless 2) ≡ entry_of f i
    unfolding first_fault
    little_proof p = rw (le-ltb i.work least_work work, lt-ltb i.proof i.least p)

    module _ (proof : i.least ≤ i.proof) where
      pub high_bound : 32 < i.bound → Err (placeless 3) ≡ entry_of f i
      unfolding first_fault
      high_bound h = rw (le-ltb i.work least_work work, le-ltb i.proof i.least proof, lt-ltb 32 i.bound h)

      module _ (low : i.bound ≤ 32) {j : Judgement} (judged : j ≡ judge f) where
        pub bad_file : (j.status ≡ 0 → ⊥) → Err (record { status = j.status; place = j.place }) ≡ entry_of f i
        unfolding first_fault
        bad_file n = rw (le-ltb i.work least_work work, le-ltb i.proof i.least proof, le-ltb 32 i.bound low, ← judged, ne_eqb j.status 0 n)

        pub good_file : j.status ≡ 0 → Ok j.question ≡ entry_of f i
        unfolding first_fault
        good_file z =
            let same : (judge f).status ≡ 0 = cc in
            rw (le-ltb i.work least_work work, le-ltb i.proof i.least proof, le-ltb 32 i.bound low, eq-eqb (judge f).status 0 same)
            (ap (λ (k : Judgement). Ok k.question) judged)

pub ruleset enter_laws = (little_work, little_proof, high_bound, bad_file, good_file)

-- a list of checks is passed where each of them is
pub first_passes : (c : Check) (cs : List Check) → first_fault (c ∷ cs) ≡ none → c ≡ none
unfolding first_fault
first_passes none cs e = refl
first_passes (some fault) cs e = e

pub rest_passes : (c : Check) (cs : List Check) → first_fault (c ∷ cs) ≡ none → first_fault cs ≡ none
unfolding first_fault
rest_passes none cs e = e
rest_passes (some fault) cs e = let z : ◌≡◌ {A = ℕ} 0 1 = cc in absurd (omega arith)

pub not_refused : (wrong : Bool) (status : ℕ) → refused_if wrong status ≡ none → wrong ≡ false
not_refused true status e = let z : ◌≡◌ {A = ℕ} 0 1 = cc in absurd (omega arith)
not_refused false status e = refl

right_file : (right : Bool) (fault : Fault) → cond right none (some fault) ≡ none → right ≡ true
right_file true fault e = refl
right_file false fault e = let z : ◌≡◌ {A = ℕ} 0 1 = cc in absurd (omega arith)

-- checks of a call's own, after the door's
pub further_checks : (cs ds : List Check) → first_fault cs ≡ none → first_fault (cs ++ ds) ≡ first_fault ds
unfolding first_fault
further_checks [] ds e = refl
further_checks (none ∷ cs) ds e = further_checks cs ds e
further_checks (some fault ∷ cs) ds e = let z : ◌≡◌ {A = ℕ} 0 1 = cc in absurd (omega arith)

pub refused_before : (cs ds : List Check) {fault : Fault} → first_fault cs ≡ some fault → first_fault (cs ++ ds) ≡ some fault
unfolding first_fault
refused_before [] ds e = let z : ◌≡◌ {A = ℕ} 0 1 = cc in absurd (omega arith)
refused_before (none ∷ cs) ds e = refused_before cs ds e
refused_before (some fault ∷ cs) ds e = e

-- The door opens exactly where all checks are passed.
module _ (f : List ℕ) (i : Inputs) where
  pub admitted : Admitted f i → first_fault (checks f i) ≡ none
  unfolding first_fault
  admitted a =
      rw (le-ltb i.work least_work a.enough_work, le-ltb i.proof i.least a.enough_proof, le-ltb 32 i.bound a.low_bound, eq-eqb (judge f).status 0 a.good_file)

  pub passed : first_fault (checks f i) ≡ none → Admitted f i
  passed e =
      let e₂ = rest_passes _ _ e in
      let e₃ = rest_passes _ _ e₂ in
      let e₄ = rest_passes _ _ e₃ in
      record {
        enough_work = ltb-false i.work least_work (not_refused _ _ (first_passes _ _ e));
        enough_proof = ltb-false i.proof i.least (not_refused _ _ (first_passes _ _ e₂));
        low_bound = ltb-false 32 i.bound (not_refused _ _ (first_passes _ _ e₃));
        good_file = eqb-true (judge f).status 0 (right_file _ _ (first_passes _ _ e₄));
      }

-- what a call learns from the door
open_by : (f : List ℕ) (x : Option Fault) {q : ℕ} → entry_by f x ≡ Ok q → x ≡ none
open_by f none e = refl
open_by f (some fault) e = let z : ◌≡◌ {A = ℕ} 0 1 = cc in absurd (omega arith)

asked_by : (f : List ℕ) (x : Option Fault) {q : ℕ} → entry_by f x ≡ Ok q → q ≡ (judge f).question
asked_by f none e = cc
asked_by f (some fault) e = let z : ◌≡◌ {A = ℕ} 0 1 = cc in absurd (omega arith)

fault_by : (f : List ℕ) (x : Option Fault) {r : Refusal} → entry_by f x ≡ Err r → x ≡ some (record { status = r.status; place = r.place })
fault_by f none e = let z : ◌≡◌ {A = ℕ} 0 1 = cc in absurd (omega arith)
fault_by f (some fault) {r} e =
    let same : record { status = fault.status; place = fault.place } ≡ r = cc in rw (← same)

module _ (f : List ℕ) (i : Inputs) {entry : Result ℕ Refusal} (says : entry ≡ entry_of f i) where
  pub opened : {question : ℕ} → entry ≡ Ok question → Admitted f i
  opened e = passed f i (open_by f (first_fault (checks f i)) (sym says ∙ e))

  pub at_question : {question : ℕ} → entry ≡ Ok question → question ≡ (judge f).question
  at_question e = asked_by f (first_fault (checks f i)) (sym says ∙ e)

  pub fault_met : {r : Refusal} → entry ≡ Err r → first_fault (checks f i) ≡ some (record { status = r.status; place = r.place })
  fault_met e = fault_by f (first_fault (checks f i)) (sym says ∙ e)

  pub shut : {A : Type 0} {r : Refusal} → entry ≡ Err r → (refuse : Fault → A) (given : A)
      → behind (first_fault (checks f i)) refuse given ≡ refuse (record { status = r.status; place = r.place })
  unfolding behind
  shut e refuse given = rw (fault_met e)

pub inside : {A : Type 0} {f : List ℕ} {i : Inputs} → Admitted f i → (refuse : Fault → A) (given : A)
    → behind (first_fault (checks f i)) refuse given ≡ given
unfolding behind
inside {f = f} {i} a refuse given = rw (admitted f i a)

-- the work words: untouched where they are too few, else zero at the front, whatever their front was while the call ran
pub work_untouched : (w : List ℕ) → length w < least_work → w ≡ work_after w
unfolding work_after
work_untouched w h = rw (lt-ltb (length w) least_work h)

pub work_cleared : (w : List ℕ) {w' : List ℕ} → least_work ≤ length w → w' ≡ replicate least_work 0 ++ drop least_work w → w' ≡ work_after w
unfolding work_after
work_cleared w h e = e ∙ rw (le-ltb (length w) least_work h)

wiped_front : (n : ℕ) (w part : List ℕ) → length part ≡ n → replicate n 0 ++ drop n (part ++ drop n w) ≡ replicate n 0 ++ drop n w
wiped_front n w part l = rw (drop_at part (drop n w) n l)

pub work_left : (w part : List ℕ) → least_work ≤ length w → length part ≡ length (take least_work w) → work_after (part ++ drop least_work w) ≡ work_after w
unfolding work_after
work_left w part h l =
    let whole : length part ≡ least_work = l ∙ length-take-le least_work w h in
    rw (le-ltb (length w) least_work h, le-ltb (length (part ++ drop least_work w)) least_work (omega (arith, length-append part (drop least_work w)))) (wiped_front least_work w part whole)
