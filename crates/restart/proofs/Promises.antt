-- Each statement of specs/Promises.antt, of every desk; and that what collections and education see is such as they want.
use mathlib.Core.List.{List, [], ◌∷◌}
use mathlib.Core.Option.{Option, none, some}
use mathlib.Core.Path.{◌≡◌, refl, ap, ◌∙◌}
use Prim.Native.Nat.{ℕ, ◌≤◌}
use native.Mathlib.Omega.{arith}
use lib.ListN.{length, length-map}
use Rattle.words.specs.Steps.{step_word}
use borrow.Author.Tests.{eq-eqb}
use Rattle.table.specs.File.{judge, table_in}
use Rattle.table.specs.Seen.{unrestricted}
use Rattle.seen.specs.Copying.{seen_in}
use Rattle.education.proofs.Promises.{within_seen}
use Rattle.table.specs.Limits.{Within}
use Rattle.table.specs.Syntax.{Table}
use Rattle.table.proofs.AcceptedTable.{accepted_within}
use Rattle.rules.specs.Comparison.{a_clash, a_circle}
use Rattle.rules.specs.Setting.{one_way, longest_proof, read_steps, Setting}
use Rattle.rules.specs.Machinery.Play.{check, search_for}
use Rattle.rules.specs.Verdict.{Refusal, malformed, not_allowed, not_unified, leaves_open, status_of}
use Rattle.rules.proofs.Demands.{larger_budget, proof_is_short}
use Rattle.hukolearu.specs.Door.{Fault, first_fault, checks, behind, Admitted}
use Rattle.hukolearu.specs.Calls.{Given, room_of, search_given, check_given, SearchAsked, inputs_by, search_by, CheckAsked, check_by}
use Rattle.hukolearu.specs.Says.{SearchSays, ran_out, none_found, found_fitting, found_too_long, CheckSays, not_closed, closed_fitting, closed_too_long}
use Rattle.hukolearu.specs.declared.door.Inputs.{Inputs}
use Rattle.hukolearu.proofs.Accepts.{asks_negative}
use Rattle.hukolearu.proofs.CallDemands.{behind_either, out_status}
use Rattle.hukolearu.proofs.DoorLaws.{admitted, passed, further_checks, refused_before, inside}
use Rattle.hukolearu.proofs.DemandsOf.{search_demands, check_demands}
use Rattle.hukolearu.proofs.TypedOrder.{typed_in_any_order_for}
use Rattle.restart.specs.Conclusions.{first_negative}
use Rattle.restart.specs.Restart.{refused_at, restart_checks, missing_for, RestartAdmitted, SearchAccepted, CheckAccepted, search_setting, check_setting, search_on, check_on}
use Rattle.restart.specs.Promises as Promises
use Rattle.restart.proofs.Telling.{search_missing, check_missing}

-- what collections sees, and education
pub collections : Promises.Sees table_in
collections = record { within = λ file ok. accepted_within file ok; negative = λ file ok. asks_negative file ok }

pub education : Promises.Sees seen_in
unfolding unrestricted
education = record { within = λ file ok. within_seen file ok; negative = λ file ok. asks_negative file ok }

-- education learns nothing
pub search_tells_nothing : Promises.SearchTellsNothing
unfolding search_on
search_tells_nothing f g zf zg cf cg same bound budget proof answer work =
    rw (same, cf, cg, eq-eqb (judge f).status 0 zf, eq-eqb (judge g).status 0 zg)

pub check_tells_nothing : Promises.CheckTellsNothing
unfolding check_on
check_tells_nothing f g zf zg cf cg same bound offered answer work =
    rw (same, cf, cg, eq-eqb (judge f).status 0 zf, eq-eqb (judge g).status 0 zg)

-- past all checks, and before
module _ {file : List ℕ} {i : Inputs} where
  all_passed : RestartAdmitted file i → first_fault (restart_checks file i) ≡ none
  unfolding first_fault
  all_passed ok = further_checks (checks file i) (refused_at (first_negative file) ∷ []) (admitted file i ok.admitted) ∙ rw ok.concluded

  refused-first : ¬ Admitted file i → (fault : Fault) × (first_fault (checks file i) ≡ some fault) × (first_fault (restart_checks file i) ≡ some fault)
  refused-first n = go (first_fault (checks file i)) refl
    where
      go : (x : Option Fault) → first_fault (checks file i) ≡ x → (fault : Fault) × (first_fault (checks file i) ≡ some fault) × (first_fault (restart_checks file i) ≡ some fault)
      go none e = absurd (n (passed file i e))
      go (some fault) e = (fault, e, refused_before (checks file i) (refused_at (first_negative file) ∷ []) e)

  missing-there : Admitted file i → {place : ℕ} → first_negative file ≡ some place → missing_for file i ≡ some place
  unfolding missing_for
  missing-there ok e = inside ok (λ fault. none) (first_negative file) ∙ e

-- an accepted call has another status
never_22 : {S : Setting} {budget room : ℕ} {g : Given} → SearchSays S budget room g → g.outcome.status ≡ 22 → ⊥
never_22 (ran_out s l) e = omega arith
never_22 (none_found s l) e = omega arith
never_22 (found_fitting s l c a f) e = omega arith
never_22 (found_too_long s l c a f) e = omega arith

other_than_22 : (why : Refusal) → status_of why ≡ 22 → ⊥
other_than_22 malformed e = omega arith
other_than_22 not_allowed e = omega arith
other_than_22 (not_unified a_clash) e = omega arith
other_than_22 (not_unified a_circle) e = omega arith
other_than_22 leaves_open e = omega arith

never_checked_22 : {S : Setting} {offered : List ℕ} {room : ℕ} {g : Given} → CheckSays S offered room g → g.outcome.status ≡ 22 → ⊥
never_checked_22 (not_closed {why} d) e = other_than_22 why e
never_checked_22 (closed_fitting d a f) e = omega arith
never_checked_22 (closed_too_long d a f) e = omega arith

-- the length
short_said : (S : Setting) → Within S.table → S.bound ≤ 32 → {budget room : ℕ} {g : Given} → SearchSays S budget room g → length g.proof ≤ longest_proof S.profile
short_said S limits low (ran_out s l) = omega arith
short_said S limits low (none_found s l) = omega arith
short_said S limits low (found_fitting {steps} s l c a f) = rw (length-map steps step_word) (proof_is_short S limits low steps c)
short_said S limits low (found_too_long s l c a f) = omega arith

module _ (seen : List ℕ → Table) where
  search_given_lem : (a : SearchAsked) → SearchAccepted a
      → search_on seen a ≡ search_given (search_setting seen a) a.answer_room (search_for (search_setting seen a) a.budget)
  unfolding search_on behind
  search_given_lem a ok = rw (all_passed ok)

  check_given_lem : (a : CheckAsked) → CheckAccepted a
      → check_on seen a
      ≡ check_given (seen a.file) (length a.offered) a.answer_room (check (check_setting seen a) (read_steps one_way a.offered))
  unfolding check_on behind
  check_given_lem a ok = rw (all_passed ok)

  pub same_with_larger_budget : Promises.SameWithLargerBudget seen
  unfolding search_on
  same_with_larger_budget a larger n l =
      let S = search_setting seen a in
      behind_either (first_fault (restart_checks a.file (inputs_by one_way a)))
      (λ k. ap (search_given S a.answer_room) (larger_budget S a.budget larger (λ e. k (out_status S a.answer_room a.budget e)) l)) n

  pub search_without_conclusion : Promises.SearchWithoutConclusion seen
  search_without_conclusion a place ok e = search_missing seen a (missing-there ok e)

  pub check_without_conclusion : Promises.CheckWithoutConclusion seen
  check_without_conclusion a place ok e = check_missing seen a (missing-there ok e)

  pub other_search_refusals : Promises.OtherSearchRefusals seen
  unfolding search_on search_by behind
  other_search_refusals a n = let r = refused-first n in rw (r.1, r.2)

  pub other_check_refusals : Promises.OtherCheckRefusals seen
  unfolding check_on check_by behind
  other_check_refusals a n = let r = refused-first n in rw (r.1, r.2)

  module _ (sees : Promises.Sees seen) where
    pub search_meets_the_demands : Promises.SearchMeetsTheDemands seen
    search_meets_the_demands =
        search_demands one_way seen
        (λ a ok. sees.within a.file ok.admitted.good_file)
        (λ a ok. ok.admitted.low_bound)
        (λ a ok. sees.negative a.file ok.admitted.good_file)
        search_given_lem

    pub check_meets_the_demands : Promises.CheckMeetsTheDemands seen
    check_meets_the_demands =
        check_demands one_way seen
        (λ a ok. sees.within a.file ok.admitted.good_file)
        (λ a ok. ok.admitted.low_bound)
        (λ a ok. sees.negative a.file ok.admitted.good_file)
        check_given_lem

    pub search_with_conclusions : Promises.SearchWithConclusions seen
    search_with_conclusions a ok e = never_22 (search_meets_the_demands.says a ok) e

    pub check_with_conclusions : Promises.CheckWithConclusions seen
    check_with_conclusions a ok e = never_checked_22 (check_meets_the_demands.says a ok) e

    pub proof_fits : Promises.ProofFits seen
    proof_fits a ok =
        short_said (search_setting seen a) (sees.within a.file ok.admitted.good_file) ok.admitted.low_bound (search_meets_the_demands.says a ok)

    pub typed_in_any_order : Promises.TypedInAnyOrder seen
    typed_in_any_order a b ok ok' same e n m =
        typed_in_any_order_for one_way (seen a.file) (seen b.file) same a.bound a.budget b.budget (room_of a.answer_room) (room_of b.answer_room)
        (search_on seen a) (search_on seen b) (search_meets_the_demands.says a ok) (rw e (search_meets_the_demands.says b ok')) n m
