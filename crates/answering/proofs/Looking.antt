-- Bound by bound, with premises as the code has them.
use mathlib.Core.List.{List, []}
use mathlib.Core.Path.{◌≡◌, refl, sym, ap, ◌∙◌}
use Prim.Native.Nat.{ℕ, zero, suc, ◌+◌, ◌-◌, ◌≤◌, ◌<◌}
use native.Mathlib.Numerals.{add-one}
use native.Mathlib.Omega.{arith}
use borrow.Author.Tests.{eq-eqb, ne_eqb}
use mir.Syntax.{w32}
use mir.Val.{Fits}
use lib.ListN.{length}
use Rattle.table.specs.File.{judge, table_in}
use Rattle.rules.specs.Setting.{Setting, base}
use Rattle.hukolearu.specs.Calls.{Given, search_call, search_with, at_front}
use Rattle.hukolearu.specs.Says.{SearchAccepted, SearchSays, ran_out, none_found, found_fitting, found_too_long}
use Rattle.hukolearu.specs.declared.Outcome.{Outcome}
use Rattle.hukolearu.proofs.CallDemands.{search_says}
use Rattle.asking.specs.Program.{question, asked}
use Rattle.answering.specs.declared.look.Looked.{Looked}
use Rattle.answering.specs.Looking.{up_to, look_from, looked, Tells, Searchable}

-- an accepted search makes no more tries than its budget, and one that says "none" gives no words
says_tries : {S : Setting} {budget room : ℕ} {g : Given} → SearchSays S budget room g → g.outcome.tries ≤ budget
says_tries (ran_out d l) = omega arith
says_tries (none_found d l) = l
says_tries (found_fitting d l c a r) = l
says_tries (found_too_long d l c a r) = l

pub record Empty (g : Given) : Type 0 where
  pub disjuncts : g.outcome.disjuncts ≡ 0
  pub proof : g.proof ≡ []
  pub answer : g.answer ≡ []

says_none : {S : Setting} {budget room : ℕ} {g : Given} → SearchSays S budget room g → g.outcome.status ≡ 10 → Empty g
says_none (ran_out d l) e = absurd (omega arith)
says_none (none_found d l) e = record { disjuncts = refl; proof = refl; answer = refl }
says_none (found_fitting d l c a r) e = absurd (omega arith)
says_none (found_too_long d l c a r) e = absurd (omega arith)

module _ (file : List ℕ) (bound budget : ℕ) (ok : (judge file).status ≡ 0) (low : bound ≤ 32) where
  pub asked_says : SearchSays (base (table_in file) bound) budget 4096 (asked file bound budget)
  unfolding asked
  asked_says =
      let a : SearchAccepted (question file bound budget) = record { enough_work = omega arith; enough_proof = omega arith; low_bound = low; good_file = ok } in
      search_says (question file bound budget) a

  pub asked_tries : (asked file bound budget).outcome.tries ≤ budget
  asked_tries = says_tries asked_says

  pub asked_none : (asked file bound budget).outcome.status ≡ 10 → Empty (asked file bound budget)
  asked_none e = says_none asked_says e

-- one bound
module _ (file : List ℕ) (bound budget used : ℕ) (proof answer work : List ℕ) (s : Searchable file bound proof answer work) {o : Outcome}
    (e : o ≡ (search_call (search_with file bound (budget - used) proof answer work)).outcome) where
  same : search_call (search_with file bound (budget - used) proof answer work) ≡ asked file bound (budget - used)
  unfolding asked
  same = rw (← s.proof_room, ← s.answer_room, ← s.work_room)

  pub tries_fit : used ≤ budget → used + o.tries ≤ budget
  tries_fit h =
      let t : o.tries ≡ (asked file bound (budget - used)).outcome.tries = ap (λ (x : Outcome). x.tries) e ∙ ap (λ (g : Given). g.outcome.tries) same in
      omega (arith, t, asked_tries file bound (budget - used) s.accepted s.low)

  pub tries_word : used ≤ budget → Fits w32 budget → Fits w32 (used + o.tries)
  tries_word h f = record { fits = omega (arith, tries_fit h, f.fits) }

  pub bound_told : {proof' answer' : List ℕ} → proof' ≡ at_front (search_call (search_with file bound (budget - used) proof answer work)).proof proof
      → answer' ≡ at_front (search_call (search_with file bound (budget - used) proof answer work)).answer answer
      → Tells (up_to bound used (asked file bound (budget - used))) (record { bound = bound; tries = used + o.tries; outcome = o }) proof proof' answer answer'
  bound_told ep ea = record {
    bound = refl;
    tries = ap (λ (x : Outcome). used + x.tries) e ∙ ap (λ (g : Given). used + g.outcome.tries) same;
    numbers = e ∙ ap (λ (g : Given). g.outcome) same;
    steps = ep ∙ ap (λ (g : Given). at_front g.proof proof) same;
    words = ea ∙ ap (λ (g : Given). at_front g.answer answer) same;
  }

-- the bounds in turn
module _ (search : ℕ → ℕ → Given) (budget bound used : ℕ) where
  pub look_last : {more : ℕ} → more ≡ 0 → look_from search budget bound more used ≡ up_to bound used (search bound (budget - used))
  unfolding look_from
  look_last e = rw e

  pub look_ended : (more : ℕ) → ((search bound (budget - used)).outcome.status ≡ 10 → ⊥) → look_from search budget bound more used ≡ up_to bound used (search bound (budget - used))
  unfolding look_from
  look_ended zero n = refl
  look_ended (suc more) n = rw (ne_eqb (search bound (budget - used)).outcome.status 10 n)

  pub look_on : {more rest : ℕ} → more ≡ suc rest → (search bound (budget - used)).outcome.status ≡ 10
      → look_from search budget bound more used ≡ look_from search budget (suc bound) rest (used + (search bound (budget - used)).outcome.tries)
  unfolding look_from
  look_on m e = rw (m, eq-eqb (search bound (budget - used)).outcome.status 10 e)

-- the bounds so far said "none": what is left, from the next bound on, gives the whole
pub record Looking (file : List ℕ) (limit budget : ℕ) (proof₀ answer₀ work₀ proof answer work : List ℕ) (bound used : ℕ) : Type 0 where
  pub searchable : Searchable file limit proof₀ answer₀ work₀
  pub steps : proof ≡ proof₀
  pub words : answer ≡ answer₀
  pub work_long : length work ≡ length work₀
  pub low : bound ≤ limit
  pub spent : used ≤ budget
  pub rest : looked file limit budget ≡ look_from (asked file) budget bound (limit - bound) used

pub look_begin : {file : List ℕ} {limit : ℕ} (budget : ℕ) {proof answer work : List ℕ} → Searchable file limit proof answer work
    → Looking file limit budget proof answer work proof answer work 0 0
unfolding looked
look_begin {file} {limit} budget s =
    let all : limit - 0 ≡ limit = omega arith in
    record { searchable = s; steps = refl; words = refl; work_long = refl; low = omega arith; spent = omega arith; rest = rw all }

module _ {file : List ℕ} {limit budget : ℕ} {proof₀ answer₀ work₀ proof answer work : List ℕ} {bound used : ℕ}
    (i : Looking file limit budget proof₀ answer₀ work₀ proof answer work bound used) where
  pub bound_searchable : Searchable file bound proof answer work
  bound_searchable = rw (i.steps, i.words) (record {
    accepted = i.searchable.accepted;
    low = omega (arith, i.low, i.searchable.low);
    proof_room = i.searchable.proof_room;
    answer_room = i.searchable.answer_room;
    work_room = i.searchable.work_room ∙ sym i.work_long;
  })

  pub bound_spent : used ≤ budget
  bound_spent = i.spent

  pub proof_long : {n : ℕ} → n ≡ length proof → n ≡ length proof₀
  proof_long e = e ∙ ap (λ (l : List ℕ). length l) i.steps

  pub answer_long : {n : ℕ} → n ≡ length answer → n ≡ length answer₀
  answer_long e = e ∙ ap (λ (l : List ℕ). length l) i.words

  pub work_same : {n : ℕ} → n ≡ length work → n ≡ length work₀
  work_same e = e ∙ i.work_long

  pub bound_word : bound < limit → Fits w32 limit → Fits w32 (bound + 1)
  bound_word h f = record { fits = omega (arith, h, f.fits) }

  module _ {l : Looked} {proof' answer' : List ℕ} (t : Tells (up_to bound used (asked file bound (budget - used))) l proof proof' answer answer') where
    -- the last search gives the whole
    whole-told : looked file limit budget ≡ up_to bound used (asked file bound (budget - used)) → Tells (looked file limit budget) l proof₀ proof' answer₀ answer'
    whole-told e = rw e (rw (i.steps, i.words) at t)

    pub look_ends : (l.outcome.status ≡ 10 → ⊥) → Tells (looked file limit budget) l proof₀ proof' answer₀ answer'
    look_ends n =
        whole-told (i.rest ∙ look_ended (asked file) budget bound used (limit - bound) (λ z. n (ap (λ (x : Outcome). x.status) t.numbers ∙ z)))

    pub look_over : limit ≤ bound → Tells (looked file limit budget) l proof₀ proof' answer₀ answer'
    look_over h = whole-told (i.rest ∙ look_last (asked file) budget bound used (omega (arith, h)))

    pub look_next : bound < limit → l.outcome.status ≡ 10 → {work' : List ℕ} → length work' ≡ length work
        → Looking file limit budget proof₀ answer₀ work₀ proof' answer' work' (bound + 1) l.tries
    look_next h z w =
        let none : (asked file bound (budget - used)).outcome.status ≡ 10 = ap (λ (x : Outcome). x.status) (sym t.numbers) ∙ z in
        let low : bound ≤ 32 = omega (arith, i.low, i.searchable.low) in
        let empty = asked_none file bound (budget - used) i.searchable.accepted low none in
        let left : limit - bound ≡ suc (limit - (bound + 1)) = omega (arith, h) in
        record {
          searchable = i.searchable;
          steps = t.steps ∙ ap (λ (x : List ℕ). at_front x proof) empty.proof ∙ i.steps;
          words = t.words ∙ ap (λ (x : List ℕ). at_front x answer) empty.answer ∙ i.words;
          work_long = w ∙ i.work_long;
          low = omega (arith, h);
          spent = omega (arith, t.tries, i.spent, asked_tries file bound (budget - used) i.searchable.accepted low);
          rest = i.rest ∙ look_on (asked file) budget bound used left none ∙ rw (t.tries, add-one bound);
        }

-- all bounds below the limit said "none"
pub look_through : {file : List ℕ} {limit budget : ℕ} {proof₀ answer₀ work₀ proof answer work : List ℕ} {bound used : ℕ}
    → Looking file limit budget proof₀ answer₀ work₀ proof answer work bound used → limit ≤ bound
    → Looking file limit budget proof₀ answer₀ work₀ proof answer work limit used
look_through {limit = limit} {bound = bound} i h =
    let e : bound ≡ limit = omega (arith, i.low) in
    rw e at i

pub ruleset bound_laws = (tries_word, bound_told)

pub ruleset long_laws = (proof_long, answer_long, work_same)

pub ruleset look_laws = (look_begin, bound_searchable, bound_spent, bound_word, look_ends, look_over, look_next)
