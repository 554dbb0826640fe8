-- The demands hold of the calls: each statement of specs/CallDemands.antt is proved.
use mathlib.Core.Bool.{true}
use mathlib.Core.List.{List, [], ◌∷◌, map}
use mathlib.Core.Logic.{◌↔◌, ◌⊎◌, inl, inr, ◌≢◌}
use mathlib.Core.Option.{Option, none, some}
use mathlib.Core.Path.{◌≡◌, refl, sym, ap, ap₂, ◌∙◌, subst}
use Prim.Native.Nat.{ℕ, ◌≤◌, ◌<◌}
use native.Mathlib.Omega.{arith}
use borrow.Author.Tests.{le-leb, lt-ltb}
use lib.ListN.{length, length-map}
use Rattle.words.specs.Steps.{step_word, well_formed}
use Rattle.words.specs.declared.Step.TheVariants.{Reduction, Extension, Restart, Malformed}
use Rattle.words.proofs.Roundtrip.{decode_encode}
use Rattle.words.specs.declared.Step.{Step}
use Rattle.table.specs.File.{table_in}
use Rattle.table.specs.Limits.{Within}
use Rattle.table.specs.Syntax.{Table, all_clauses}
use Rattle.rules.specs.Setting.{Profile, restarting, read_step, read_steps, Setting, every_leaf, over}
use Rattle.rules.specs.Tableau.{Tableau, start, Closed}
use Rattle.rules.specs.Order.{Ending, found, nothing, Searched, First}
use Rattle.rules.specs.Truth.{Interpretation, AllNegative, AllHold, TrueAnswer}
use Rattle.rules.specs.Growing.{Larger, moved}
use Rattle.rules.specs.Comparison.{a_clash, a_circle}
use Rattle.rules.specs.Verdict.{Refusal, malformed, not_allowed, not_unified, leaves_open, status_of, accepted, refused, Checks, runs_out, Answers}
use Rattle.rules.specs.Machinery.Play.{search_for, answer_of, disjuncts_of}
use Rattle.rules.proofs.Checker.{accepted_closed, closed_accepted}
use Rattle.rules.proofs.ClosedTableaux.{larger_bound, larger_table, step_numbers}
use Rattle.rules.proofs.Demands.{closed_passed, accepted_has_answer, one_answer, one_ending, tries_are_those_made, none_exactly, found_is_first, one_check_verdict, answers_hold, larger_budget, short_clauses, not_enough}
use Rattle.rules.proofs.Lengths.{InRange}
use Rattle.rules.proofs.Lists.{All}
use Rattle.rules.specs.Answer.{disjuncts, answer_words}
use Rattle.rules.proofs.Locality.{same_disjuncts, same_words_lem}
use Rattle.rules.specs.Substitution.{MostGeneral}
use Rattle.hukolearu.specs.Calls as Calls
use Rattle.hukolearu.specs.Door.{Fault, first_fault, checks, behind}
use Rattle.hukolearu.specs.Calls.{Given, granted, search_given, room_of, search_inputs, search_setting, search_call, check_setting, check_call}
use Rattle.hukolearu.specs.Says.{SearchSays, ran_out, none_found, found_fitting, found_too_long, CheckSays, not_closed, closed_fitting, closed_too_long}
use Rattle.hukolearu.specs.CallDemands as Demands
use Rattle.table.proofs.AcceptedTable.{accepted_within}
use Rattle.hukolearu.proofs.Accepts.{asks_negative}
use Rattle.hukolearu.proofs.DoorLaws.{admitted, passed as passed-all}
use Rattle.hukolearu.proofs.Says.{search_accepted, check_accepted, search_given_lem, check_given_lem, one_search_outcome, one_check_outcome}

pub search_says : Demands.SearchSaysThat
search_says a ok = rw (search_accepted a ok) (search_given_lem (search_setting a) a.budget a.answer_room)

pub one_search : Demands.OneSearchOutcome
one_search S budget room g h = one_search_outcome S budget room

pub check_says : Demands.CheckSaysThat
check_says a ok = rw (check_accepted a ok) (check_given_lem (check_setting a) a.offered a.answer_room)

pub one_check : Demands.OneCheckOutcome
one_check S offered room g h = one_check_outcome S offered room

-- the steps of a closed tableau are well formed, so their words say them
module _ (S : Setting) (few : length (all_clauses S.table) ≤ 512) (low : S.bound ≤ 32) where
  formed : (s : Step) → InRange S s → well_formed (restarting S.profile) s ≡ true
  unfolding well_formed
  formed (Reduction height) r = rw (le-leb 1 height (omega arith), le-leb height 63 (omega arith))
  formed (Extension clause literal) r = rw (lt-ltb clause 512 (omega arith), lt-ltb literal 8 (omega arith))
  formed Restart r = r
  formed Malformed r = absurd r

  said-back : (ss : List Step) → All (InRange S) ss → read_steps S.profile (map step_word ss) ≡ ss
  unfolding All
  said-back [] r = refl
  said-back (s ∷ ss) r = ap₂ ◌∷◌ (decode_encode (restarting S.profile) s (formed s r.0)) (said-back ss r.1)

pub proof_words : (S : Setting) → Within S.table → S.bound ≤ 32 → (steps : List Step) → Closed S steps → read_steps S.profile (map step_word steps) ≡ steps
proof_words S limits low steps c = said-back S limits.few low steps (step_numbers S (short_clauses (all_clauses S.table) limits.clauses) c)

-- what the outcomes of a search tell, over any setting
module _ (S : Setting) where
  pub no_tableau : {n : ℕ} → Searched S (start S.table) nothing n → (steps : List Step) → ¬ Closed S steps
  no_tableau {n} s =
      let says = tries_are_those_made S n nothing n s (omega arith) in
      (none_exactly S n (λ e. let z : ◌≡◌ {A = ℕ} 0 1 = cc (says, e) in omega arith)).0 (n, says)

  pub first : {steps : List Step} {n : ℕ} → Searched S (start S.table) (found steps) n → First S steps
  first {steps} {n} s = found_is_first S n steps n (tries_are_those_made S n (found steps) n s (omega arith))

  module _ {budget room : ℕ} where
    pub out_exactly : {g : Given} {e : Ending} {n : ℕ} → SearchSays S budget room g → Searched S (start S.table) e n
        → (g.outcome.status ≡ 11) ↔ (budget < n)
    out_exactly {e = e} {n} (ran_out {e = d} {tries} s l) r =
        let same = (one_ending S d e tries n s r).1 in (λ _. omega (arith, same), λ _. refl)
    out_exactly {e = e} {n} (none_found {tries} s l) r =
        let same = (one_ending S nothing e tries n s r).1 in (λ z. absurd (omega arith), λ k. absurd (omega (arith, same)))
    out_exactly {e = e} {n} (found_fitting {steps} {tries} s l c a f) r =
        let same = (one_ending S (found steps) e tries n s r).1 in (λ z. absurd (omega arith), λ k. absurd (omega (arith, same)))
    out_exactly {e = e} {n} (found_too_long {steps} {tries} s l c a f) r =
        let same = (one_ending S (found steps) e tries n s r).1 in (λ z. absurd (omega arith), λ k. absurd (omega (arith, same)))

    pub none_said : {g : Given} → SearchSays S budget room g → g.outcome.status ≢ 11
        → (g.outcome.status ≡ 10) ↔ ((steps : List Step) → ¬ Closed S steps)
    none_said (ran_out s l) n = absurd (n refl)
    none_said (none_found s l) n = (λ _. no_tableau s, λ _. refl)
    none_said (found_fitting {steps} s l c a f) n = (λ z. absurd (omega arith), λ h. absurd (h steps c))
    none_said (found_too_long {steps} s l c a f) n = (λ z. absurd (omega arith), λ h. absurd (h steps c))

    pub found_said : Within S.table → S.bound ≤ 32 → {g : Given} → SearchSays S budget room g → g.outcome.status ≡ 0
        → First S (read_steps S.profile g.proof)
    found_said limits low (ran_out s l) z = absurd (omega arith)
    found_said limits low (none_found s l) z = absurd (omega arith)
    found_said limits low (found_fitting {steps} s l c a f) z = rw (proof_words S limits low steps c) (first s)
    found_said limits low (found_too_long s l c a f) z = absurd (omega arith)

    pub closed_said : {g : Given} → SearchSays S budget room g → Demands.FoundStatus g.outcome.status → (steps : List Step) × Closed S steps
    closed_said (ran_out s l) (inl z) = absurd (omega arith)
    closed_said (ran_out s l) (inr z) = absurd (omega arith)
    closed_said (none_found s l) (inl z) = absurd (omega arith)
    closed_said (none_found s l) (inr z) = absurd (omega arith)
    closed_said (found_fitting {steps} s l c a f) z = (steps, c)
    closed_said (found_too_long {steps} s l c a f) z = (steps, c)

    pub some_said : {g : Given} → SearchSays S budget room g → (steps : List Step) → Closed S steps
        → Demands.FoundStatus g.outcome.status ⊎ (g.outcome.status ≡ 11)
    some_said (ran_out s l) steps c = inr refl
    some_said (none_found s l) steps c = absurd (no_tableau s steps c)
    some_said (found_fitting s l d a f) steps c = inl (inl refl)
    some_said (found_too_long s l d a f) steps c = inl (inr refl)

pub ran_out_exactly : Demands.RanOutExactly
ran_out_exactly a ok e tries s = out_exactly (search_setting a) (search_says a ok) s

pub none_said_exactly : Demands.NoneSaidExactly
none_said_exactly a ok n = none_said (search_setting a) (search_says a ok) n

pub found_comes_first : Demands.FoundComesFirst
found_comes_first a ok z = found_said (search_setting a) (accepted_within a.file ok.good_file) ok.low_bound (search_says a ok) z

-- what the outcomes of a check tell, over any setting
unaccepted : (why : Refusal) → ((status_of why ≡ 0) ⊎ (status_of why ≡ 16)) → ⊥
unaccepted malformed (inl z) = omega arith
unaccepted malformed (inr z) = omega arith
unaccepted not_allowed (inl z) = omega arith
unaccepted not_allowed (inr z) = omega arith
unaccepted (not_unified a_clash) (inl z) = omega arith
unaccepted (not_unified a_clash) (inr z) = omega arith
unaccepted (not_unified a_circle) (inl z) = omega arith
unaccepted (not_unified a_circle) (inr z) = omega arith
unaccepted leaves_open (inl z) = omega arith
unaccepted leaves_open (inr z) = omega arith

module _ (S : Setting) (offered : List ℕ) where
  pub closed_of : {x : Tableau} → Checks S (start S.table) 0 (read_steps S.profile offered) (accepted x) → Closed S (read_steps S.profile offered)
  closed_of {x} d = let a = accepted_closed S d in record { tableau = x; made = a.0; no_leaf_open = a.1; unifiable = a.2 }

  module _ {room : ℕ} where
    pub accepted_said : {g : Given} → CheckSays S offered room g
        → ((g.outcome.status ≡ 0) ⊎ (g.outcome.status ≡ 16)) ↔ Closed S (read_steps S.profile offered)
    accepted_said (not_closed {why} {place} d) = (
      λ z. absurd (unaccepted why z),
      λ c. let same = one_check_verdict S (read_steps S.profile offered) (refused why place) (accepted c.tableau) d (closed_accepted S c) in
          let z : ◌≡◌ {A = ℕ} 0 1 = cc in absurd (omega arith),
    )
    accepted_said (closed_fitting d a f) = (λ _. closed_of d, λ _. inl refl)
    accepted_said (closed_too_long d a f) = (λ _. closed_of d, λ _. inr refl)

pub accepted_exactly : Demands.AcceptedExactly
accepted_exactly a ok = accepted_said (check_setting a) a.offered (check_says a ok)

-- the answer words hold
module _ (I : Interpretation) (S : Setting) (limits : Within S.table) (low : S.bound ≤ 32) (negative : AllNegative S.table.question.literals) (hold : AllHold I S.table.clauses) where
  words-hold : {steps : List Step} (c : Closed S steps) {count : ℕ} {words : List ℕ} → Answers S.table c.tableau count words
      → TrueAnswer I S.table.question count words
  words-hold {steps} c {count} {words} a =
      let p = closed_passed S steps c in
      let b : Answers S.table c.tableau (disjuncts_of S.table p.0) (answer_of S.table p.0) =
      subst (λ (x : Tableau). Answers S.table x (disjuncts_of S.table p.0) (answer_of S.table p.0)) p.2 (accepted_has_answer S steps p.0 p.1) in
      let same = one_answer S.table c.tableau count (disjuncts_of S.table p.0) words (answer_of S.table p.0) a b in
      rw (same.0, same.1) (answers_hold I S limits low negative hold steps p.0 p.1)

  pub found_holds : {budget room : ℕ} {g : Given} → SearchSays S budget room g → g.outcome.status ≡ 0 → Demands.WordsHold I S.table g
  found_holds (ran_out s l) z = absurd (omega arith)
  found_holds (none_found s l) z = absurd (omega arith)
  found_holds (found_fitting s l c a f) z = words-hold c a
  found_holds (found_too_long s l c a f) z = absurd (omega arith)

  pub checked_holds : {offered : List ℕ} {room : ℕ} {g : Given} → CheckSays S offered room g → g.outcome.status ≡ 0 → Demands.WordsHold I S.table g
  unfolding closed_of
  checked_holds (not_closed {why} d) z = absurd (unaccepted why (inl z))
  checked_holds {offered} (closed_fitting d a f) z = words-hold (closed_of S offered d) a
  checked_holds (closed_too_long d a f) z = absurd (omega arith)

pub found_answers_hold : Demands.FoundAnswersHold
found_answers_hold I a ok hold z =
    found_holds I (search_setting a) (accepted_within a.file ok.good_file) ok.low_bound (asks_negative a.file ok.good_file) hold (search_says a ok) z

pub accepted_answers_hold : Demands.AcceptedAnswersHold
accepted_answers_hold I a ok hold z =
    checked_holds I (check_setting a) (accepted_within a.file ok.good_file) ok.low_bound (asks_negative a.file ok.good_file) hold (check_says a ok) z

-- a larger budget
pub behind_either : (x : Option Fault) {g h : Given} → (g.outcome.status ≢ 11 → h ≡ g) → (behind x Calls.refused_by g).outcome.status ≢ 11
    → behind x Calls.refused_by h ≡ behind x Calls.refused_by g
unfolding behind
behind_either none same n = same n
behind_either (some fault) same n = refl

pub out_status : (S : Setting) (room budget : ℕ) → search_for S budget ≡ runs_out budget → (search_given S room (search_for S budget)).outcome.status ≡ 11
unfolding search_given
out_status S room budget e = rw e

pub same_with_larger_budget : Demands.SameWithLargerBudget
unfolding search_call
same_with_larger_budget a larger n l =
    let S = search_setting a in
    behind_either (first_fault (checks a.file (search_inputs a)))
    (λ k. ap (search_given S a.answer_room) (larger_budget S a.budget larger (λ e. k (out_status S a.answer_room a.budget e)) l)) n

-- a larger table or bound
pub never_none : Demands.NeverNone
never_none a b ok ok' grown l once =
    let c = closed_said (search_setting a) (search_says a ok) once in
    let d = (larger_table grown c.1).0 in
    let e = (larger_bound l d).0 in
    some_said (search_setting b) (search_says b ok') (map (moved grown) c.0) e

-- a proof's words, its clause numbers moved along
module _ (rules : Profile) {t u : Table} (grown : Larger t u) (few : length (all_clauses u) ≤ 512) {bound : ℕ} (low : bound ≤ 32) where
  words_moved : (ws : List ℕ) → All (InRange (over rules u bound)) (map (moved grown) (read_steps rules ws))
      → read_steps rules (map (Demands.moved_by rules grown) ws) ≡ map (moved grown) (read_steps rules ws)
  unfolding All
  words_moved [] r = refl
  words_moved (w ∷ ws) r =
      let s = moved grown (read_step rules w) in
      ap₂ ◌∷◌ (decode_encode (restarting rules) s (formed (over rules u bound) few low s r.0)) (words_moved ws r.1)

answers_again : {t u : Table} {x y : Tableau} {count : ℕ} {words : List ℕ} → x ≡ y → t.question ≡ u.question
    → Answers t x count words → Answers u y count words
answers_again {t} {u} {x} {y} e same a = record {
  by = a.by;
  general = subst (λ (z : Tableau). MostGeneral a.by z.pairs) e a.general;
  counted = a.counted ∙ ap (λ (z : Tableau). length (disjuncts a.by t z)) e ∙ sym (ap length (same_disjuncts a.by t u y same));
  written = a.written ∙ ap (answer_words a.by t) e ∙ sym (same_words_lem a.by t u y same);
}

module _ (rules : Profile) {t u : Table} (grown : Larger t u) (limits : Within u) {bound higher : ℕ} (low : higher ≤ 32) (l : bound ≤ higher) (offered : List ℕ) where
  pub said_again : {room room' : ℕ} {g : Given} → room ≤ room' → CheckSays (over rules t bound) offered room g → g.outcome.status ≡ 0
      → CheckSays (over rules u higher) (map (Demands.moved_by rules grown) offered) room' g
  unfolding closed_of
  said_again more (not_closed {why} d) z = absurd (unaccepted why (inl z))
  said_again more (closed_too_long d a f) z = absurd (omega arith)
  said_again {room} {room'} more (closed_fitting {x} {count} {words} d a f) z =
      let c = closed_of (over rules t bound) offered d in
      let g = larger_table grown c in
      let h = larger_bound l g.0 in
      let same : read_steps rules (map (Demands.moved_by rules grown) offered) ≡ map (moved grown) (read_steps rules offered) =
      words_moved rules grown limits.few low offered (step_numbers (over rules u higher) (short_clauses (all_clauses u) limits.clauses) h.0) in
      let e : x ≡ h.0.tableau = sym (h.1 ∙ g.1) in
      let b : Answers u h.0.tableau count words =
      answers_again e grown.question a in
      let k : Checks (over rules u higher) (start u) 0 (read_steps rules (map (Demands.moved_by rules grown) offered)) (accepted h.0.tableau) =
      rw same (closed_accepted (over rules u higher) h.0) in
      rw (← length-map offered (Demands.moved_by rules grown)) (closed_fitting k b (omega arith))

pub accepted_once_more : Demands.AcceptedOnceMore
accepted_once_more a b ok ok' grown l more same z =
    let room : room_of a.answer_room ≤ room_of b.answer_room = omega arith in
    let says : CheckSays (check_setting b) b.offered (room_of b.answer_room) (check_call a) =
    rw same (said_again every_leaf grown (accepted_within b.file ok'.good_file) ok'.low_bound l a.offered room (check_says a ok) z) in
    one_check_outcome (check_setting b) b.offered (room_of b.answer_room) (check_says b ok') says

-- the door opens exactly where the call passes all checks of input
pub admitted_exactly : Demands.AdmittedExactly
admitted_exactly file inputs = (passed-all file inputs, admitted file inputs)

-- what "none" says of evidence
pub none_said_means : Demands.NoneSaidMeans
none_said_means a ok z e =
    not_enough (table_in a.file) a.bound ((none_said_exactly a ok (λ r. let w : ◌≡◌ {A = ℕ} 10 11 = sym z ∙ r in absurd (omega arith))).0 z) e
