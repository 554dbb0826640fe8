-- The calls say what document 01 says (specs/Says.antt), and no other outcome is permitted.
use mathlib.Core.List.{List, [], map}
use mathlib.Core.Path.{◌≡◌, refl, sym, ap, ◌∙◌, subst}
use Prim.Native.Nat.{ℕ, ◌≤◌, ◌<◌}
use native.Mathlib.Decide.{dec_lt}
use native.Mathlib.Omega.{arith}
use borrow.Author.Tests.{le-leb, lt-leb}
use lib.ListN.{length}
use Rattle.words.specs.Steps.{step_of, step_word}
use Rattle.words.specs.declared.Step.{Step}
use Rattle.table.specs.Syntax.{Table}
use Rattle.table.specs.File.{table_in}
use Rattle.rules.specs.Setting.{read_steps, Setting}
use Rattle.rules.specs.Tableau.{Tableau, start, Closed}
use Rattle.rules.specs.Order.{Ending, found, nothing, Searched}
use Rattle.rules.specs.Verdict.{Refusal, CheckVerdict, accepted, refused, Checks, Answers}
use Rattle.rules.specs.Machinery.Play.{Play, Checking, passed, stopped, check, checked, search_for, answer_of, disjuncts_of}
use Rattle.rules.proofs.Demands.{passed_closed, closed_passed, accepted_has_answer, one_answer, search_ends, one_ending, runs_out_exactly, tries_are_those_made, found_is_first, checker_follows_the_rules, one_check_verdict}
use Rattle.hukolearu.specs.Calls as Calls
use Rattle.hukolearu.specs.Calls.{Given, granted, answered, check_given, found_given, search_given, room_of, SearchAsked, search_setting, search_call, CheckAsked, check_setting, check_call}
use Rattle.hukolearu.specs.Says.{SearchAccepted, CheckAccepted, SearchSays, ran_out, none_found, found_fitting, found_too_long, CheckSays, not_closed, closed_fitting, closed_too_long}
use Rattle.hukolearu.proofs.DoorLaws.{inside}

-- past the door
pub search_accepted : (a : SearchAsked) → SearchAccepted a
    → search_call a ≡ search_given (search_setting a) a.answer_room (search_for (search_setting a) a.budget)
unfolding search_call
search_accepted a ok = inside ok Calls.refused_by (search_given (search_setting a) a.answer_room (search_for (search_setting a) a.budget))

pub check_accepted : (a : CheckAsked) → CheckAccepted a
    → check_call a
    ≡ check_given (table_in a.file) (length a.offered) a.answer_room (check (check_setting a) (map step_of a.offered))
unfolding check_call
check_accepted a ok =
    inside ok Calls.refused_by (check_given (table_in a.file) (length a.offered) a.answer_room (check (check_setting a) (map step_of a.offered)))

-- the answer fits, or does not
module _ (t : Table) (steps : ℕ) (proof : List ℕ) (tries room : ℕ) (p : Play) where
  pub fitting : length (answer_of t p) ≤ room_of room
      → answered t steps proof tries room p ≡ granted steps proof (disjuncts_of t p) (answer_of t p) tries
  unfolding answered
  fitting h = rw (le-leb (length (answer_of t p)) (room_of room) h)

  pub too_long : room_of room < length (answer_of t p) → answered t steps proof tries room p ≡ Calls.refused 16 0 tries
  unfolding answered
  too_long h = rw (lt-leb (length (answer_of t p)) (room_of room) h)

-- the search
module _ (S : Setting) (budget room : ℕ) where
  Said : Given → Type 0
  Said = SearchSays S budget (room_of room)

  found_said : (steps : List Step) (tries : ℕ) → Searched S (start S.table) (found steps) tries → tries ≤ budget → Closed S steps
      → Said (found_given S.table steps tries room (check S steps))
  unfolding Said found_given
  found_said steps tries d enough c =
      let passes = closed_passed S steps c in
      let p = passes.0 in
      let back = passed_closed S steps p passes.1 in
      let answers : Answers S.table back.0.tableau (disjuncts_of S.table p) (answer_of S.table p) =
      rw back.1 (accepted_has_answer S steps p passes.1) in
      rw passes.1 (go p back.0 answers (dec_lt (room_of room) (length (answer_of S.table p))))
    where
      go : (p : Play) (c : Closed S steps) → Answers S.table c.tableau (disjuncts_of S.table p) (answer_of S.table p) → Dec (room_of room < length (answer_of S.table p))
          → SearchSays S budget (room_of room) (answered S.table (length steps) (map step_word steps) tries room p)
      go p c a (yes l) = rw (too_long S.table (length steps) (map step_word steps) tries room p l) (found_too_long d enough c a l)
      go p c a (no n) = let l : length (answer_of S.table p) ≤ room_of room = omega arith in
          rw (fitting S.table (length steps) (map step_word steps) tries room p l) (found_fitting d enough c a l)

  search-said : (e : Ending) (tries : ℕ) → Searched S (start S.table) e tries → Dec (budget < tries)
      → Said (search_given S room (search_for S budget))
  unfolding Said search_given
  search-said e tries d (yes l) = rw ((runs_out_exactly S budget e tries d).1 l) (ran_out d l)
  search-said nothing tries d (no n) =
      let enough : tries ≤ budget = omega arith in
      rw (tries_are_those_made S budget nothing tries d enough) (none_found d enough)
  search-said (found steps) tries d (no n) =
      let enough : tries ≤ budget = omega arith in
      let says = tries_are_those_made S budget (found steps) tries d enough in
      rw says (found_said steps tries d enough (found_is_first S budget steps tries says).0)

  pub search_given_lem : SearchSays S budget (room_of room) (search_given S room (search_for S budget))
  unfolding Said
  search_given_lem = let s = search_ends S in search-said s.0 s.1 s.2 (dec_lt budget s.1)

-- the checker
module _ (S : Setting) (offered : List ℕ) (room : ℕ) where
  check-said : (k : Checking) → check S (read_steps S.profile offered) ≡ k
      → CheckSays S offered (room_of room) (check_given S.table (length offered) room k)
  unfolding check_given checked
  check-said (stopped why place) e = not_closed (rw e at (checker_follows_the_rules S offered))
  check-said (passed p) e = go (dec_lt (room_of room) (length (answer_of S.table p)))
    where
      go : Dec (room_of room < length (answer_of S.table p)) → CheckSays S offered (room_of room) (answered S.table (length offered) [] 0 room p)
      go (yes l) = rw (too_long S.table (length offered) [] 0 room p l)
          (closed_too_long (rw e at (checker_follows_the_rules S offered)) (accepted_has_answer S (read_steps S.profile offered) p e) l)
      go (no n) = let l : length (answer_of S.table p) ≤ room_of room = omega arith in
          rw (fitting S.table (length offered) [] 0 room p l)
          (closed_fitting (rw e at (checker_follows_the_rules S offered)) (accepted_has_answer S (read_steps S.profile offered) p e) l)

  pub check_given_lem : CheckSays S offered (room_of room) (check_given S.table (length offered) room (check S (read_steps S.profile offered)))
  check_given_lem = check-said (check S (read_steps S.profile offered)) refl

-- No other outcome is permitted.
differ : {steps : List Step} → nothing ≡ found steps → ⊥
differ e = let z : ◌≡◌ {A = ℕ} 0 1 = cc in omega arith

module _ (S : Setting) where
  same-tableau : {ss rs : List Step} → ss ≡ rs → (c : Closed S ss) (d : Closed S rs) → c.tableau ≡ d.tableau
  same-tableau {ss} {rs} e c d =
      let p = closed_passed S ss c in
      let q = closed_passed S rs d in
      let same : check S ss ≡ check S rs = ap (check S) e in
      let one : p.0 ≡ q.0 = cc (p.1, q.1, same) in
      sym p.2 ∙ ap (λ (x : Play). x.tableau) one ∙ q.2

  same_words_lem : {ss rs : List Step} {m n : ℕ} {vs ws : List ℕ} → ss ≡ rs → (c : Closed S ss) (d : Closed S rs) → Answers S.table c.tableau m vs
      → Answers S.table d.tableau n ws → (m ≡ n) × (vs ≡ ws)
  same_words_lem {m = m} {n} {vs} {ws} e c d a b =
      one_answer S.table d.tableau m n vs ws (subst (λ (x : Tableau). Answers S.table x m vs) (same-tableau e c d) a) b

  same_end : {e f : Ending} {m n : ℕ} → Searched S (start S.table) e m → Searched S (start S.table) f n → (e ≡ f) × (m ≡ n)
  same_end {e} {f} {m} {n} = one_ending S e f m n

  record SameFound (ss rs : List Step) (m n i j : ℕ) (vs ws : List ℕ) : Type 0 where
    steps : ss ≡ rs
    tries : m ≡ n
    count : i ≡ j
    words : vs ≡ ws

  same_found : {ss rs : List Step} {m n i j : ℕ} {vs ws : List ℕ} → Searched S (start S.table) (found ss) m → Searched S (start S.table) (found rs) n
      → (c : Closed S ss) (d : Closed S rs) → Answers S.table c.tableau i vs → Answers S.table d.tableau j ws → SameFound ss rs m n i j vs ws
  same_found {ss} {rs} s r c d a b =
      let e = same_end s r in
      let ss≡rs : ss ≡ rs = cc e.0 in
      let w = same_words_lem ss≡rs c d a b in
      record { steps = ss≡rs; tries = e.1; count = w.0; words = w.1 }

  module _ (budget room : ℕ) where
    pub one_search_outcome : {g h : Given} → SearchSays S budget room g → SearchSays S budget room h → g ≡ h
    one_search_outcome (ran_out s l) (ran_out r k) = refl
    one_search_outcome (ran_out s l) (none_found r k) = let e = same_end s r in absurd (omega (arith, e.1))
    one_search_outcome (ran_out s l) (found_fitting r k c a f) = let e = same_end s r in absurd (omega (arith, e.1))
    one_search_outcome (ran_out s l) (found_too_long r k c a f) = let e = same_end s r in absurd (omega (arith, e.1))
    one_search_outcome (none_found s l) (ran_out r k) = let e = same_end s r in absurd (omega (arith, e.1))
    one_search_outcome (none_found s l) (none_found r k) = ap (λ (n : ℕ). Calls.refused 10 0 n) (same_end s r).1
    one_search_outcome (none_found s l) (found_fitting r k c a f) = let e = (same_end s r).0 in absurd (differ e)
    one_search_outcome (none_found s l) (found_too_long r k c a f) = let e = (same_end s r).0 in absurd (differ e)
    one_search_outcome (found_fitting s l c a f) (ran_out r k) = let e = same_end s r in absurd (omega (arith, e.1))
    one_search_outcome (found_fitting s l c a f) (none_found r k) = let e = (same_end r s).0 in absurd (differ e)
    one_search_outcome (found_fitting s l c a f) (found_fitting r k d b g) =
        let e = same_found s r c d a b in rw (e.steps, e.tries, e.count, e.words)
    one_search_outcome (found_fitting s l c a f) (found_too_long r k d b g) =
        let e = same_found s r c d a b in absurd (omega (arith, ap length e.words))
    one_search_outcome (found_too_long s l c a f) (ran_out r k) = let e = same_end s r in absurd (omega (arith, e.1))
    one_search_outcome (found_too_long s l c a f) (none_found r k) = let e = (same_end r s).0 in absurd (differ e)
    one_search_outcome (found_too_long s l c a f) (found_fitting r k d b g) =
        let e = same_found s r c d a b in absurd (omega (arith, ap length e.words))
    one_search_outcome (found_too_long s l c a f) (found_too_long r k d b g) = ap (λ (n : ℕ). Calls.refused 16 0 n) (same_end s r).1

  module _ (offered : List ℕ) (room : ℕ) where
    same_check : {v w : CheckVerdict} → Checks S (start S.table) 0 (read_steps S.profile offered) v → Checks S (start S.table) 0 (read_steps S.profile offered) w → v ≡ w
    same_check {v} {w} = one_check_verdict S (read_steps S.profile offered) v w

    refused_accepted : {why : Refusal} {place : ℕ} {x : Tableau} → refused why place ≡ accepted x → ⊥
    refused_accepted e = let z : ◌≡◌ {A = ℕ} 0 1 = cc in omega arith

    same_accepted : {x y : Tableau} {m n : ℕ} {vs ws : List ℕ} → accepted x ≡ accepted y → Answers S.table x m vs → Answers S.table y n ws → (m ≡ n) × (vs ≡ ws)
    same_accepted {x} {y} {m} {n} {vs} {ws} e a b =
        let one : x ≡ y = cc in one_answer S.table y m n vs ws (subst (λ (z : Tableau). Answers S.table z m vs) one a) b

    pub one_check_outcome : {g h : Given} → CheckSays S offered room g → CheckSays S offered room h → g ≡ h
    one_check_outcome (not_closed {why} {place} s) (not_closed {why = why'} {place = place'} r) =
        let e = same_check s r in let w : why ≡ why' = cc in let p : place ≡ place' = cc in rw (w, p)
    one_check_outcome (not_closed s) (closed_fitting r b g) = absurd (refused_accepted (same_check s r))
    one_check_outcome (not_closed s) (closed_too_long r b g) = absurd (refused_accepted (same_check s r))
    one_check_outcome (closed_fitting s a f) (not_closed r) = absurd (refused_accepted (same_check r s))
    one_check_outcome (closed_fitting s a f) (closed_fitting r b g) = let e = same_accepted (same_check s r) a b in rw (e.0, e.1)
    one_check_outcome (closed_fitting s a f) (closed_too_long r b g) =
        let e = same_accepted (same_check s r) a b in absurd (omega (arith, ap length e.1))
    one_check_outcome (closed_too_long s a f) (not_closed r) = absurd (refused_accepted (same_check r s))
    one_check_outcome (closed_too_long s a f) (closed_fitting r b g) =
        let e = same_accepted (same_check s r) a b in absurd (omega (arith, ap length e.1))
    one_check_outcome (closed_too_long s a f) (closed_too_long r b g) = refl
