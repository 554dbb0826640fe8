-- The checker over the table of the listed: it says of the moved proof what it says of the proof.
use borrow.Author.Tests.{eqb-false}
use lib.Dec.{eqb, ltb}
use lib.ListN.{length, length-map}
use mathlib.Core.Bool.{Bool, true, false, cond}
use mathlib.Core.List.{List, [], ◌∷◌, map}
use mathlib.Core.Logic.{inl, inr}
use mathlib.Core.Option.{Option, none, some}
use mathlib.Core.Path.{◌≡◌, refl, sym, ap, ◌∙◌}
use native.Mathlib.Omega.{arith}
use Prim.Native.Nat.{ℕ}
use Rattle.words.specs.Steps.{step_of, step_word}
use Rattle.words.specs.declared.Step.{Step}
use Rattle.table.specs.Body.{body_fault, any_positive}
use Rattle.table.specs.File.{body_of, size_fits, trailer_fits, fingerprint_fits, clauses_fit, question_words, question_restricted, judge_read, judge_body, judge, table_in}
use Rattle.table.specs.declared.Judgement.{Judgement}
use Rattle.table.specs.Limits.{Within, FileWithin, Words}
use Rattle.table.specs.Syntax.{Table, all_clauses}
use Rattle.table.proofs.AcceptedTable.{accepted_within}
use Rattle.table.proofs.FileEncoding.{file_within, file_accepted, file_decoded}
use Rattle.rules.specs.Locality.{SameCopied}
use Rattle.rules.specs.Setting.{every_leaf, base}
use Rattle.rules.specs.System.{◌∈◌, first, later}
use Rattle.rules.specs.Tableau.{Closed}
use Rattle.rules.specs.Truth.{Interpretation, AllHold}
use Rattle.rules.specs.Machinery.Unify.{solution}
use Rattle.rules.specs.Machinery.Play.{Play, Checking, passed, stopped, check, answer_of, disjuncts_of}
use Rattle.rules.proofs.ClosedTableaux.{step_numbers}
use Rattle.rules.proofs.Demands.{only_copied_clauses_matter, short_clauses}
use Rattle.rules.proofs.Lengths.{InRange}
use Rattle.rules.proofs.Lists.{All}
use Rattle.rules.proofs.Locality.{same_disjuncts}
use Rattle.hukolearu.specs.Calls.{room_of, answered, check_given, CheckAsked, check_inputs, check_setting, check_call, refused_by}
use Rattle.hukolearu.specs.CallDemands.{check_status, FoundStatus, WordsHold}
use Rattle.hukolearu.specs.Door.{Fault, Check, first_fault, checks, behind, refused_if}
use Rattle.hukolearu.specs.declared.door.Inputs.{Inputs}
use Rattle.hukolearu.specs.Says.{CheckAccepted, CheckSays}
use Rattle.hukolearu.proofs.Accepts.{asks_negative}
use Rattle.hukolearu.proofs.CallDemands.{accepted_exactly, proof_words, checked_holds}
use Rattle.hukolearu.proofs.DoorLaws.{passed as passed-all}
use Rattle.hukolearu.proofs.Says.{check_accepted, check_given_lem}
use Rattle.listing.specs.Behind.{listed_table, listed_number, moved_step, moved_word}
use Rattle.listing.specs.Promises.{steps_of, table_of_listed, over_the_listed}
use Rattle.listing.proofs.Copies.{same_copied, listed_within, listed_file_within}

-- A check whose status is 0 or 16 has passed all checks of input: no refusal of theirs is either.
abbrev Other : ℕ → Type 0
Other status = status ≡ 16 → ⊥

either : (b : Bool) (x y : Judgement) → Other x.status → Other y.status → Other (cond b x y).status
either true x y h k = h
either false x y h k = k

read_other : (file : List ℕ) (o : Option ℕ) → Other (judge_read file o).status
unfolding judge_read
read_other file (some place) = λ e. omega arith
read_other file none =
    either (clauses_fit file) _ _
    (either (any_positive (question_words file)) _ _ (λ e. omega arith) (either (question_restricted file) _ _ (λ e. omega arith) (λ e. omega arith)))
    (λ e. omega arith)

judged_other : (file : List ℕ) → Other (judge file).status
unfolding judge judge_body
judged_other file =
    either (size_fits file) _ _
    (either (trailer_fits file) _ _ (either (fingerprint_fits file) _ _ (read_other file (body_fault 0 0 (body_of file))) (λ e. omega arith)) (λ e. omega arith))
    (λ e. omega arith)

-- a check of input that refuses neither by 0 nor by 16
Plain : Check → Type 0
Plain none = Unit {0}
Plain (some fault) = FoundStatus fault.status → ⊥

plain_if : (wrong : Bool) (status : ℕ) → (FoundStatus status → ⊥) → Plain (refused_if wrong status)
unfolding Plain
plain_if true status h = h
plain_if false status h = tt

plain_file : (file : List ℕ) (right : Bool) → eqb (judge file).status 0 ≡ right → Plain (cond right none (some (record { status = (judge file).status; place = (judge file).place })))
unfolding Plain
plain_file file true e = tt
plain_file file false e = λ f. elim f [ inl z ↦ eqb-false (judge file).status 0 e z | inr z ↦ judged_other file z ]

plain_first : (c : Check) (cs : List Check) → Plain c → Plain (first_fault cs) → Plain (first_fault (c ∷ cs))
unfolding Plain first_fault
plain_first none cs h k = k
plain_first (some fault) cs h k = h

plain_end : Plain (first_fault [])
unfolding Plain first_fault
plain_end = tt

all_plain : (file : List ℕ) (i : Inputs) → Plain (first_fault (checks file i))
all_plain file i =
    plain_first _ _ (plain_if (ltb i.work 16384) 1 (λ f. elim f [ inl z ↦ omega arith | inr z ↦ omega arith ]))
    (plain_first _ _ (plain_if (ltb i.proof i.least) 2 (λ f. elim f [ inl z ↦ omega arith | inr z ↦ omega arith ]))
    (plain_first _ _ (plain_if (ltb 32 i.bound) 3 (λ f. elim f [ inl z ↦ omega arith | inr z ↦ omega arith ]))
    (plain_first _ [] (plain_file file (eqb (judge file).status 0) refl) plain_end)))

pub found_accepted : (a : CheckAsked) → FoundStatus (check_status a) → CheckAccepted a
unfolding check_call behind Plain
found_accepted a f = go (first_fault (checks a.file (check_inputs a))) refl (all_plain a.file (check_inputs a)) f
  where
    go : (o : Option Fault) → first_fault (checks a.file (check_inputs a)) ≡ o → Plain o
        → FoundStatus (behind o refused_by (check_given (table_in a.file) (length a.offered) a.answer_room (check (check_setting a) (map step_of a.offered)))).outcome.status
        → CheckAccepted a
    go none e p f = passed-all a.file (check_inputs a) e
    go (some fault) e p f = absurd (p f)

-- the steps of an accepted proof
module _ (a : CheckAsked) (f : FoundStatus (check_status a)) where
  pub closed : Closed (check_setting a) (steps_of a)
  closed = (accepted_exactly a (found_accepted a f)).0 f

  pub limits : Within (table_in a.file)
  limits = accepted_within a.file (found_accepted a f).good_file

  pub in_range : All (InRange (check_setting a)) (steps_of a)
  in_range = step_numbers (check_setting a) (short_clauses (all_clauses (table_in a.file)) limits.clauses) closed

all_in : {A : Type 0} (P : A → Type 0) {x : A} {xs : List A} → x ∈ xs → All P xs → P x
unfolding All
all_in P first h = h.0
all_in P (later m) h = all_in P m h.1

module _ (a : CheckAsked) (f : FoundStatus (check_status a)) where
  pub copied_same : SameCopied (table_in a.file) (table_of_listed a) (listed_number (table_in a.file) (steps_of a)) (steps_of a)
  copied_same = same_copied (table_in a.file) (steps_of a) (λ clause literal m. (all_in (InRange (check_setting a)) m (in_range a f)).0)

  -- the same verdict on the moved steps
  moved-check : check (base (table_of_listed a) a.bound) (map (moved_step (table_in a.file) (steps_of a)) (steps_of a)) ≡ check (check_setting a) (steps_of a)
  moved-check = (only_copied_clauses_matter every_leaf (table_in a.file) (table_of_listed a) _ a.bound (steps_of a) copied_same).0

  moved-closed : Closed (base (table_of_listed a) a.bound) (map (moved_step (table_in a.file) (steps_of a)) (steps_of a))
  moved-closed = (only_copied_clauses_matter every_leaf (table_in a.file) (table_of_listed a) _ a.bound (steps_of a) copied_same).1.0 (closed a f)

  same_answer : (p : Play) → answer_of (table_of_listed a) p ≡ answer_of (table_in a.file) p
  same_answer = (only_copied_clauses_matter every_leaf (table_in a.file) (table_of_listed a) _ a.bound (steps_of a) copied_same).2

  same_count : (p : Play) → disjuncts_of (table_of_listed a) p ≡ disjuncts_of (table_in a.file) p
  unfolding disjuncts_of
  same_count p = ap length (same_disjuncts (solution p.bindings) (table_in a.file) (table_of_listed a) p.tableau copied_same.question)

  -- the moved words say the moved steps
  words-fused : (offered : List ℕ) → map step_word (map (moved_step (table_in a.file) (steps_of a)) (map step_of offered)) ≡ map (moved_word (table_in a.file) (steps_of a)) offered
  words-fused [] = refl
  words-fused (w ∷ ws) = ap (λ (vs : List ℕ). moved_word (table_in a.file) (steps_of a) w ∷ vs) (words-fused ws)

  moved-steps : map step_of (map (moved_word (table_in a.file) (steps_of a)) a.offered) ≡ map (moved_step (table_in a.file) (steps_of a)) (steps_of a)
  moved-steps =
      ap (λ (vs : List ℕ). map step_of vs) (sym (words-fused a.offered))
      ∙ proof_words (base (table_of_listed a) a.bound) (listed_within (table_in a.file) (steps_of a) (limits a f)) (found_accepted a f).low_bound _ moved-closed

  -- what a check gives over either table
  same-given : (steps room : ℕ) (k : Checking) → check_given (table_of_listed a) steps room k ≡ check_given (table_in a.file) steps room k
  unfolding check_given answered
  same-given steps room (passed p) = rw (same_answer p, same_count p)
  same-given steps room (stopped why place) = refl

  pub given_over : check_given (table_of_listed a) (length (over_the_listed a).offered) a.answer_room (check (base (table_of_listed a) a.bound) (map step_of (over_the_listed a).offered))
      ≡ check_call a
  given_over =
      ap (λ (steps : List Step). check_given (table_of_listed a) (length (over_the_listed a).offered) a.answer_room (check (base (table_of_listed a) a.bound) steps)) moved-steps
      ∙ ap (λ (k : Checking). check_given (table_of_listed a) (length (over_the_listed a).offered) a.answer_room k) moved-check
      ∙ same-given (length (over_the_listed a).offered) a.answer_room (check (check_setting a) (steps_of a))
      ∙ ap (λ (n : ℕ). check_given (table_in a.file) n a.answer_room (check (check_setting a) (steps_of a))) (length-map a.offered (moved_word (table_in a.file) (steps_of a)))
      ∙ sym (check_accepted a (found_accepted a f))

  -- the file of the listed
  module _ (small : Words a.file) where
    listed-file : FileWithin (table_of_listed a)
    listed-file = listed_file_within (table_in a.file) (steps_of a) (file_within a.file small (found_accepted a f).good_file)

    over-accepted : CheckAccepted (over_the_listed a)
    over-accepted =
        let ok = found_accepted a f in
        record {
          enough_work = ok.enough_work;
          enough_proof = ok.enough_proof;
          low_bound = ok.low_bound;
          good_file = ap (λ (j : Judgement). j.status) (file_accepted (table_of_listed a) listed-file);
        }

    pub accepted_over : check_call (over_the_listed a) ≡ check_call a
    accepted_over =
        check_accepted (over_the_listed a) over-accepted
        ∙ ap (λ (t : Table). check_given t (length (over_the_listed a).offered) a.answer_room (check (base t a.bound) (map step_of (over_the_listed a).offered))) (file_decoded (table_of_listed a) listed-file.table)
        ∙ given_over

-- the answer's words are true where the listed clauses hold
pub true_by_listed : (I : Interpretation) (a : CheckAsked) → check_status a ≡ 0 → AllHold I (table_of_listed a).clauses → WordsHold I (table_in a.file) (check_call a)
unfolding listed_table
true_by_listed I a z hold =
    let f : FoundStatus (check_status a) = inl z in
    let ok = found_accepted a f in
    let S = base (table_of_listed a) a.bound in
    let says : CheckSays (base (table_of_listed a) a.bound) (over_the_listed a).offered (room_of a.answer_room) (check_call a) =
    rw (given_over a f) at (check_given_lem S (over_the_listed a).offered a.answer_room) in
    checked_holds I S (listed_within (table_in a.file) (steps_of a) (limits a f)) ok.low_bound (asks_negative a.file ok.good_file) hold says z
