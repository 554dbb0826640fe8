-- Bound by bound: where a search says "none" the next bound is tried, every other ends the call.
use mathlib.Core.List.{List, []}
use mathlib.Core.Path.{◌≡◌, refl, sym, ap, ◌∙◌}
use Prim.Native.Nat.{ℕ, suc, ◌+◌, ◌-◌, ◌≤◌, ◌<◌}
use native.Mathlib.Numerals.{add-one}
use native.Mathlib.Omega.{arith}
use borrow.Author.Tests.{eq-eqb, ne_eqb}
use lib.ListN.{length}
use Rattle.table.specs.File.{table_in}
use Rattle.rules.specs.Setting.{Setting, base}
use Rattle.hukolearu.specs.Calls.{Given, room_of}
use Rattle.hukolearu.specs.Says.{SearchSays, ran_out, none_found, found_fitting, found_too_long}
use Rattle.hukolearu.specs.Telling.{Told, Passed}
use Rattle.hukolearu.specs.declared.Outcome.{Outcome}
use Rattle.hukolearu.proofs.Says.{search_given_lem}
use Rattle.smallest.specs.Smallest.{summed, ended, ends_at, none_up_to, from_bound}
use Rattle.smallest.specs.Trying.{Tells, search_inside, tried_inside}

pub ended_else : (bound : ℕ) {status : ℕ} → (status ≡ 11 → ⊥) → bound ≡ ended bound status
ended_else bound {status} n = rw (ne_eqb status 11 n)

-- one bound of any searches
module _ (search : ℕ → ℕ → Given) (budget bound more used : ℕ) where
  pub goes_on : (search bound (budget - used)).outcome.status ≡ 10
      → from_bound search budget bound (suc more) used ≡ from_bound search budget (suc bound) more (used + (search bound (budget - used)).outcome.tries)
  unfolding from_bound
  goes_on e = rw (eq-eqb (search bound (budget - used)).outcome.status 10 e)

  pub ends : ((search bound (budget - used)).outcome.status ≡ 10 → ⊥)
      → from_bound search budget bound (suc more) used ≡ ends_at bound used (search bound (budget - used))
  unfolding from_bound
  ends n = rw (ne_eqb (search bound (budget - used)).outcome.status 10 n)

pub none_left : (search : ℕ → ℕ → Given) (budget bound used : ℕ) → from_bound search budget bound 0 used ≡ none_up_to used
unfolding from_bound
none_left search budget bound used = refl

-- what the base's searches say
module _ {S : Setting} {budget room : ℕ} where
  pub tries_within : {g : Given} → SearchSays S budget room g → g.outcome.tries ≤ budget
  tries_within (ran_out s l) = omega arith
  tries_within (none_found s l) = l
  tries_within (found_fitting s l c a f) = l
  tries_within (found_too_long s l c a f) = l

  pub none_writes : {g : Given} → SearchSays S budget room g → g.outcome.status ≡ 10 → (g.proof ≡ []) × (g.answer ≡ [])
  none_writes (ran_out s l) e = (refl, refl)
  none_writes (none_found s l) e = (refl, refl)
  none_writes (found_fitting s l c a f) e = absurd (omega arith)
  none_writes (found_too_long s l c a f) e = (refl, refl)

-- The bounds below this one said "none" and used so many tries; what is left gives the whole.
pub record Running (f m p₀ a₀ p a : List ℕ) (question limit budget bound used : ℕ) : Type 0 where
  pub passed : Passed f m question limit
  pub steps : p ≡ p₀
  pub words : a ≡ a₀
  pub enough : 199 ≤ length p₀
  pub within : used ≤ budget
  pub low : bound ≤ limit + 1
  pub rest : from_bound (search_inside (table_in f) (length a₀)) budget bound (limit + 1 - bound) used ≡ tried_inside (table_in f) (length a₀) budget limit

pub begins : {f m p a : List ℕ} {question limit : ℕ} (budget : ℕ) → Passed f m question limit → 199 ≤ length p
    → Running f m p a p a question limit budget 0 0
begins {limit = limit} budget h l =
    record {
      passed = h;
      steps = refl;
      words = refl;
      enough = l;
      within = omega arith;
      low = omega arith;
      rest = let all : limit + 1 - 0 ≡ suc limit = omega arith in rw all;
    }

module _ {f m p₀ a₀ p a : List ℕ} {question limit budget bound used : ℕ} (x : Running f m p₀ a₀ p a question limit budget bound used) where
  -- past every bound
  pub all_tried : limit < bound → {r : Outcome} → r ≡ (none_up_to used).given.outcome
      → Tells (tried_inside (table_in f) (length a₀) budget limit) (record { bound = 0; outcome = r }) p₀ p a₀ a
  all_tried h e =
      let none : limit + 1 - bound ≡ 0 = omega arith in
      let last : from_bound (search_inside (table_in f) (length a₀)) budget bound (limit + 1 - bound) used ≡ none_up_to used =
      rw none (none_left (search_inside (table_in f) (length a₀)) budget bound used) in
      let whole = sym x.rest ∙ last in
      rw whole (record { bound = refl; numbers = e; steps = x.steps; words = x.words })

  module _ (h : bound ≤ limit) where
    pub passed_at : Passed f m question bound
    passed_at = record { room = x.passed.room; judged = x.passed.judged; asked = x.passed.asked; low = omega (arith, x.passed.low) }

    this : Given
    this = search_inside (table_in f) (length a₀) bound (budget - used)

    says : SearchSays (base (table_in f) bound) (budget - used) (room_of (length a₀)) this
    unfolding this
    says = search_given_lem (base (table_in f) bound) (budget - used) (length a₀)

    more : limit + 1 - bound ≡ suc (limit - bound)
    more = omega arith

    module _ {p' a' : List ℕ} {o : Outcome} (t : Told (search_inside (table_in f) (length a) bound (budget - used)) o p p' a a') where
      told : Told this o p₀ p' a₀ a'
      unfolding this
      told = rw (← x.steps, ← x.words) t

      pub sum_fits : used + o.tries ≤ budget
      sum_fits =
          let e : o.tries ≡ this.outcome.tries = ap (λ (q : Outcome). q.tries) told.numbers in omega (arith, e, tries_within says, x.within)

      pub next : {m' : List ℕ} → length m' ≡ length m → o.status ≡ 10 → Running f m' p₀ a₀ p' a' question limit budget (bound + 1) (used + o.tries)
      unfolding this
      next kept e =
          let same : this.outcome.status ≡ 10 = sym (ap (λ (q : Outcome). q.status) told.numbers) ∙ e in
          let tries : o.tries ≡ this.outcome.tries = ap (λ (q : Outcome). q.tries) told.numbers in
          let nothing = none_writes says same in
          let left : limit + 1 - (bound + 1) ≡ limit - bound = omega arith in
          record {
            passed = record { room = kept ∙ x.passed.room; judged = x.passed.judged; asked = x.passed.asked; low = x.passed.low };
            steps = told.steps ∙ rw nothing.0;
            words = told.words ∙ rw nothing.1;
            enough = x.enough;
            within = sum_fits;
            low = omega arith;
            rest =
                let on : from_bound (search_inside (table_in f) (length a₀)) budget (bound + 1) (limit + 1 - (bound + 1)) (used + o.tries)
                ≡ from_bound (search_inside (table_in f) (length a₀)) budget bound (limit + 1 - bound) used =
                rw (left, more, tries, add-one bound) (sym (goes_on (search_inside (table_in f) (length a₀)) budget bound (limit - bound) used same)) in
                on ∙ x.rest;
          }

      pub over : (o.status ≡ 10 → ⊥) → {b : ℕ} {r : Outcome} → b ≡ ended bound o.status → r ≡ summed used o
          → Tells (tried_inside (table_in f) (length a₀) budget limit) (record { bound = b; outcome = r }) p₀ p' a₀ a'
      unfolding this
      over n eb er =
          let numbers = told.numbers in
          let other : this.outcome.status ≡ 10 → ⊥ = λ e. n (ap (λ (q : Outcome). q.status) numbers ∙ e) in
          let last : from_bound (search_inside (table_in f) (length a₀)) budget bound (limit + 1 - bound) used ≡ ends_at bound used this =
          rw more (ends (search_inside (table_in f) (length a₀)) budget bound (limit - bound) used other) in
          let whole = sym x.rest ∙ last in
          rw whole (record {
            bound = eb ∙ rw numbers;
            numbers = er ∙ rw numbers;
            steps = told.steps;
            words = told.words;
          })
