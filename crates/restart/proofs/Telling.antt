-- What the calls tell, by the clause that is missing a conclusion: each law goes from what a call knows to what it promises.
use mathlib.Core.List.{List, [], ◌∷◌}
use mathlib.Core.Option.{Option, none, some}
use mathlib.Core.Path.{◌≡◌, refl, sym, ap, ◌∙◌}
use Prim.Native.Nat.{ℕ, zero, suc, ◌+◌, ◌-◌, ◌<◌}
use native.Mathlib.Omega.{arith}
use mathlib.Core.Bool.{Bool, true, false, cond}
use mir.Syntax.{w32}
use mir.Val.{Fits}
use lib.Dec.{eqb}
use lib.ListN.{length, take, length-take}
use Rattle.words.specs.Fields.{following_of}
use Rattle.table.specs.Body.{any_positive}
use Rattle.table.specs.File.{body_of, judge, table_in}
use Rattle.table.specs.Syntax.{Table}
use Rattle.table.proofs.Accepted.{accepted}
use Rattle.seen.specs.Copying.{seen_in}
use Rattle.rules.specs.Setting.{one_way, read_steps}
use Rattle.rules.specs.Machinery.Play.{check, search_for}
use Rattle.hukolearu.specs.Door.{Fault, first_fault, checks, behind, entry_of}
use Rattle.hukolearu.specs.Calls.{refused, refused_by, search_given, check_given, SearchAsked, inputs_by, search_by, CheckAsked, check_inputs, check_by}
use Rattle.std.specs.Prelude as Prelude
use Rattle.std.specs.Prelude.{Some, None, Result, Ok, Err}
use Rattle.hukolearu.specs.declared.door.Refusal.{Refusal}
use Rattle.hukolearu.specs.declared.door.Inputs.{Inputs}
use Rattle.hukolearu.proofs.DoorLaws.{passed, opened, fault_met, inside, further_checks, refused_before}
use Rattle.education.specs.Education.{education_by, education_check_by}
use Rattle.restart.specs.Conclusions.{first_negative}
use Rattle.restart.specs.Restart.{refused_at, restart_checks, missing_for, search_setting, check_setting, search_on, check_on}
use Rattle.restart.specs.Walking.{unconcluded, conclusions_of}
use Rattle.restart.proofs.Meaning.{judged_walk}

-- a clause that is missing a conclusion begins within the body
module _ (question : ℕ) where
  here-or-later : (at : ℕ) (ws : List ℕ) (asked concluded : Bool) (rest : Option ℕ) {place : ℕ} → (rest ≡ some place → place < at + 1 + length ws)
      → cond asked none (cond concluded rest (some at)) ≡ some place → place < at + 1 + length ws
  here-or-later at ws true concluded rest h e = let z : ◌≡◌ {A = ℕ} 0 1 = cc in absurd (omega arith)
  here-or-later at ws false true rest h e = h e
  here-or-later at ws false false rest {place} h e = let same : at ≡ place = cc in omega arith

  missing-within : (at passing : ℕ) (ws : List ℕ) {place : ℕ} → unconcluded question at passing ws ≡ some place → place < at + length ws
  unfolding unconcluded
  missing-within at passing [] e = let z : ◌≡◌ {A = ℕ} 0 1 = cc in absurd (omega arith)
  missing-within at (suc passing) (w ∷ ws) e = let h = missing-within (at + 1) passing ws e in omega arith
  missing-within at zero (w ∷ ws) {place} e =
      let h = here-or-later at ws (eqb at question) (any_positive (take (following_of w) ws)) (unconcluded question (at + 1) (following_of w) ws) {place = place}
      (λ k. missing-within (at + 1) (following_of w) ws k) e in
      omega arith

conclusion_missing : (o : Option ℕ) {place : ℕ} → conclusions_of o ≡ Some place → o ≡ some place
conclusion_missing none e = let z : ◌≡◌ {A = ℕ} 0 1 = cc in absurd (omega arith)
conclusion_missing (some p) {place} e = let same : p ≡ place = cc in ap some same

conclusion_each : (o : Option ℕ) → conclusions_of o ≡ None → o ≡ none
conclusion_each none e = refl
conclusion_each (some p) e = let z : ◌≡◌ {A = ℕ} 0 1 = cc in absurd (omega arith)

-- by the door
module _ (f : List ℕ) (i : Inputs) where
  missing-behind : (x : Option Fault) {place : ℕ} → behind x (λ fault. none) (first_negative f) ≡ some place → (x ≡ none) × (first_negative f ≡ some place)
  unfolding behind
  missing-behind none e = (refl, e)
  missing-behind (some fault) e = let z : ◌≡◌ {A = ℕ} 0 1 = cc in absurd (omega arith)

  missing-told : {place : ℕ} → missing_for f i ≡ some place → (first_fault (checks f i) ≡ none) × (first_negative f ≡ some place)
  unfolding missing_for
  missing-told e = missing-behind (first_fault (checks f i)) e

  fault-22 : {place : ℕ} → missing_for f i ≡ some place → first_fault (restart_checks f i) ≡ some (record { status = 22; place = place })
  unfolding first_fault
  fault-22 {place} e =
      let m = missing-told e in
      further_checks (checks f i) (refused_at (first_negative f) ∷ []) m.0 ∙ rw m.1

  same-fault : missing_for f i ≡ none → first_fault (restart_checks f i) ≡ first_fault (checks f i)
  unfolding missing_for behind first_fault
  same-fault e = by (first_fault (checks f i)) refl e
    where
      by : (x : Option Fault) → first_fault (checks f i) ≡ x → behind x (λ fault. none) (first_negative f) ≡ none → first_fault (restart_checks f i) ≡ first_fault (checks f i)
      by none k e = further_checks (checks f i) (refused_at (first_negative f) ∷ []) k ∙ rw (e, k)
      by (some fault) k e = refused_before (checks f i) (refused_at (first_negative f) ∷ []) k ∙ sym k

  module _ {r : Prelude.Option ℕ} (says : r ≡ conclusions_of (missing_for f i)) where
    pub missing_place : {place : ℕ} → r ≡ Some place → missing_for f i ≡ some place
    missing_place e = conclusion_missing (missing_for f i) (sym says ∙ e)

    pub none_missing : r ≡ None → missing_for f i ≡ none
    none_missing e = conclusion_each (missing_for f i) (sym says ∙ e)

    pub missing_fits : {place : ℕ} → r ≡ Some place → Fits w32 place
    missing_fits {place} e =
        let m = missing-told (missing_place e) in
        let ok = passed f i m.0 in
        let w : unconcluded (judge f).question 0 0 (body_of f) ≡ some place = judged_walk f ok.good_file refl ∙ m.1 in
        let h = missing-within (judge f).question 0 0 (body_of f) w in
        omega (arith, length-take (length f - 4) f, (accepted f ok.good_file).most)

  -- what the door said
  module _ {entry : Result ℕ Refusal} (door : entry ≡ entry_of f i) where
    pub shut_none : {refusal : Refusal} → entry ≡ Err refusal → None ≡ conclusions_of (missing_for f i)
    unfolding missing_for behind
    shut_none e = rw (fault_met f i door e)

    pub open_judged : {question : ℕ} → entry ≡ Ok question → {r : Prelude.Option ℕ} → r ≡ conclusions_of (first_negative f) → r ≡ conclusions_of (missing_for f i)
    unfolding missing_for
    open_judged e k = k ∙ sym (ap conclusions_of (inside (opened f i door e) (λ fault. none) (first_negative f)))

-- a search and a check
module _ (seen : List ℕ → Table) where
  pub search_missing : (a : SearchAsked) {place : ℕ} → missing_for a.file (inputs_by one_way a) ≡ some place → search_on seen a ≡ refused 22 place 0
  unfolding search_on behind
  search_missing a e = rw (fault-22 a.file (inputs_by one_way a) e)

  pub check_missing : (a : CheckAsked) {place : ℕ} → missing_for a.file (check_inputs a) ≡ some place → check_on seen a ≡ refused 22 place 0
  unfolding check_on behind
  check_missing a e = rw (fault-22 a.file (check_inputs a) e)

  search-past : (a : SearchAsked) → missing_for a.file (inputs_by one_way a) ≡ none
      → search_on seen a
      ≡ behind (first_fault (checks a.file (inputs_by one_way a))) refused_by (search_given (search_setting seen a) a.answer_room (search_for (search_setting seen a) a.budget))
  unfolding search_on
  search-past a e = rw (same-fault a.file (inputs_by one_way a) e)

  check-past : (a : CheckAsked) → missing_for a.file (check_inputs a) ≡ none
      → check_on seen a
      ≡ behind (first_fault (checks a.file (check_inputs a))) refused_by
      (check_given (seen a.file) (length a.offered) a.answer_room (check (check_setting seen a) (read_steps one_way a.offered)))
  unfolding check_on
  check-past a e = rw (same-fault a.file (check_inputs a) e)

-- for collections and for education
pub search_concluded : (a : SearchAsked) → missing_for a.file (inputs_by one_way a) ≡ none → search_on table_in a ≡ search_by one_way a
unfolding search_by
search_concluded a e = search-past table_in a e

pub check_concluded : (a : CheckAsked) → missing_for a.file (check_inputs a) ≡ none → check_on table_in a ≡ check_by one_way a
unfolding check_by
check_concluded a e = check-past table_in a e

pub seen_search_concluded : (a : SearchAsked) → missing_for a.file (inputs_by one_way a) ≡ none → search_on seen_in a ≡ education_by one_way a
unfolding education_by
seen_search_concluded a e = search-past seen_in a e

pub seen_check_concluded : (a : CheckAsked) → missing_for a.file (check_inputs a) ≡ none → check_on seen_in a ≡ education_check_by one_way a
unfolding education_check_by
seen_check_concluded a e = check-past seen_in a e
