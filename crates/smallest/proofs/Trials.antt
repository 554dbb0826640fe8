-- What trying the bounds in turn comes to, by what the base's searches promise.
use mathlib.Core.List.{List}
use mathlib.Core.Logic.{inl, inr}
use mathlib.Core.Path.{◌≡◌, refl, sym, ap, ◌∙◌}
use Prim.Native.Nat.{ℕ, zero, suc, ◌+◌, ◌-◌, ◌≤◌, ◌<◌}
use native.Mathlib.Decide.{dec_lt}
use native.Mathlib.Omega.{arith}
use Rattle.words.specs.declared.Step.{Step}
use Rattle.table.specs.Syntax.{Table}
use Rattle.table.specs.File.{table_in}
use Rattle.rules.specs.Setting.{base}
use Rattle.rules.specs.Tableau.{start, Closed}
use Rattle.rules.specs.Order.{Ending, found, nothing, Searched}
use Rattle.rules.proofs.Demands.{search_ends, one_ending}
use Rattle.hukolearu.specs.Calls.{Given, refused, room_of, SearchAsked}
use Rattle.hukolearu.specs.Says.{SearchAccepted, SearchSays, ran_out, none_found, found_fitting, found_too_long}
use Rattle.hukolearu.specs.CallDemands.{FoundStatus}
use Rattle.hukolearu.proofs.CallDemands.{search_says, none_said_exactly}
use Rattle.smallest.specs.Smallest.{LeastGiven, ends_at, none_up_to, from_bound, search_at}
use Rattle.smallest.specs.SmallestDemands.{Provable, Needs, past_the_limit, with_a_proof, without}
use Rattle.smallest.proofs.Bounds.{goes_on, ends, none_left}
use Rattle.smallest.proofs.AtTheDoor.{accepted_at}

-- the bounds need one number of tries
module _ (t : Table) (limit : ℕ) where
  needs-by : {bound tries more : ℕ} (e : Ending) → bound ≤ limit → Searched (base t bound) (start t) e tries → Needs t limit (suc bound) more
      → (n : ℕ) × Needs t limit bound n × (tries ≤ n)
  needs-by {tries = tries} (found steps) l s rest = (tries, with_a_proof l s, omega arith)
  needs-by {tries = tries} {more} nothing l s rest = (tries + more, without l s rest, omega arith)

  pub needs_some : (more bound : ℕ) → bound + more ≡ suc limit → (n : ℕ) × Needs t limit bound n
  needs_some zero bound e = (0, past_the_limit {bound = bound} (omega arith))
  needs_some (suc more) bound e =
      let ended = search_ends (base t bound) in
      let rest = needs_some more (suc bound) (omega arith) in
      let all = needs-by ended.0 (omega arith) ended.2 rest.1 in
      (all.0, all.1)

  pub needs_one : {bound m n : ℕ} → Needs t limit bound m → Needs t limit bound n → m ≡ n
  needs_one (past_the_limit l) (past_the_limit k) = refl
  needs_one (past_the_limit l) (with_a_proof k s) = absurd (omega arith)
  needs_one (past_the_limit l) (without k s r) = absurd (omega arith)
  needs_one (with_a_proof l s) (past_the_limit k) = absurd (omega arith)
  needs_one {bound} (with_a_proof {tries = m} {steps = x} l s) (with_a_proof {tries = n} {steps = y} k u) = (one_ending (base t bound) (found x) (found y) m n s u).1
  needs_one {bound} (with_a_proof {tries = m} {steps = x} l s) (without {tries = n} k u r) =
      let same = (one_ending (base t bound) (found x) nothing m n s u).0 in let z : ◌≡◌ {A = ℕ} 0 1 = cc in absurd (omega arith)
  needs_one (without l s r) (past_the_limit k) = absurd (omega arith)
  needs_one {bound} (without {tries = m} l s r) (with_a_proof {tries = n} {steps = y} k u) =
      let same = (one_ending (base t bound) nothing (found y) m n s u).0 in let z : ◌≡◌ {A = ℕ} 0 1 = cc in absurd (omega arith)
  needs_one {bound} (without {tries = m} {more = p} l s r) (without {tries = n} {more = q} k u w) =
      omega (arith, (one_ending (base t bound) nothing nothing m n s u).1, needs_one r w)

-- How the bounds from one on, with so many tries used before it, come out: the budget does not last; or there is no proof up to the limit;
-- or the search at the first bound with a proof ends it.
pub data Trial (t : Table) (limit budget : ℕ) (search : ℕ → ℕ → Given) : ℕ → ℕ → LeastGiven → Type 0 where
  ran : {bound used n : ℕ} → Needs t limit bound n → budget < used + n
      → Trial t limit budget search bound used (record { bound = 0; given = refused 11 0 budget })
  none : {bound used n total : ℕ} → Needs t limit bound n → total ≡ used + n → total ≤ budget
      → ((k : ℕ) → bound ≤ k → k ≤ limit → ¬ Provable t k) → Trial t limit budget search bound used (none_up_to total)
  proof : {bound used n k : ℕ} (before : ℕ) {g : Given} → Needs t limit bound n → before + g.outcome.tries ≡ used + n
      → before + g.outcome.tries ≤ budget → bound ≤ k → k ≤ limit → ((j : ℕ) → bound ≤ j → j < k → ¬ Provable t j) → Provable t k
      → FoundStatus g.outcome.status → g ≡ search k (budget - before) → Trial t limit budget search bound used (ends_at k before g)

below : (P : ℕ → Type 0) {bound : ℕ} → ¬ P bound → {j : ℕ} → bound ≤ j → (suc bound ≤ j → ¬ P j) → ¬ P j
below P {bound} here {j} l later = go (dec_lt bound j)
  where
    go : Dec (bound < j) → ¬ P j
    go (yes h) = later (omega arith)
    go (no h) = let same : j ≡ bound = omega (arith, h) in rw same here

module _ {t : Table} {limit budget : ℕ} {search : ℕ → ℕ → Given} where
  -- a bound without a proof before them
  pub earlier : {bound used tries : ℕ} {r : LeastGiven} → bound ≤ limit → Searched (base t bound) (start t) nothing tries → ¬ Provable t bound
      → Trial t limit budget search (suc bound) (used + tries) r → Trial t limit budget search bound used r
  earlier {bound} {used} l s bare (ran n o) = ran {bound = bound} {used = used} (without l s n) (omega arith)
  earlier {bound} {used} l s bare (none {total = total} n e w h) = none {bound = bound} {used = used} {total = total} (without l s n) (omega arith) w (λ k b c. below (Provable t) bare b (λ d. h k d c))
  earlier {bound} {used} l s bare (proof {k = k} before {g = h₀} n e w b c h p f g) =
      proof {bound = bound} {used = used} {k = k} before {g = h₀} (without l s n) (omega arith) w (omega arith) c (λ j d f₁. below (Provable t) bare d (λ x. h j x f₁)) p f g

-- an accepted call's bounds
module _ (a : SearchAsked) (ok : SearchAccepted a) where
  abbrev pub t : Table
  t = table_in a.file

  abbrev pub Tried : ℕ → ℕ → LeastGiven → Type 0
  Tried = Trial t a.bound a.budget (search_at a)

  says : (bound budget : ℕ) → bound ≤ a.bound → SearchSays (base t bound) budget (room_of a.answer_room) (search_at a bound budget)
  says bound budget l = search_says _ (accepted_at a ok bound budget l)

  no_proof : {bound : ℕ} (budget : ℕ) → bound ≤ a.bound → (search_at a bound budget).outcome.status ≡ 10 → ¬ Provable t bound
  no_proof {bound} budget l e p =
      (none_said_exactly _ (accepted_at a ok bound budget l) (λ o. let z : ◌≡◌ {A = ℕ} 10 11 = sym e ∙ o in omega arith)).0 e p.0 p.1

  module _ (more bound used : ℕ) (l : bound ≤ a.bound) (w : used ≤ a.budget) (all : bound + suc more ≡ suc a.bound)
      (rest : (tries : ℕ) → used + tries ≤ a.budget → Tried (suc bound) (used + tries) (from_bound (search_at a) a.budget (suc bound) more (used + tries))) where
    abbrev Here : Type 0
    Here = Tried bound used (from_bound (search_at a) a.budget bound (suc more) used)

    -- a search with a proof ends it
    ends-here : {g : Given} {steps : List Step} → search_at a bound (a.budget - used) ≡ g → FoundStatus g.outcome.status → (g.outcome.status ≡ 10 → ⊥)
        → Searched (base t bound) (start t) (found steps) g.outcome.tries → g.outcome.tries ≤ a.budget - used → Closed (base t bound) steps → Here
    ends-here {g} {steps} e f n s k c =
        rw (ends (search_at a) a.budget bound more used (λ z. n (ap (λ (h : Given). h.outcome.status) (sym e) ∙ z)), e)
        (proof {bound = bound} {used = used} {k = bound} used (with_a_proof l s) refl (omega arith) (omega arith) l (λ j x y. absurd (omega arith)) (steps, c) f (sym e))

    one-bound : (g : Given) → SearchSays (base t bound) (a.budget - used) (room_of a.answer_room) g → search_at a bound (a.budget - used) ≡ g → Here
    one-bound g (ran_out {e = d} s k) e =
        let later = needs_some t a.bound more (suc bound) (omega arith) in
        let need = needs-by t a.bound d l s later.1 in
        let sum : used + (a.budget - used) ≡ a.budget = omega arith in
        let over : ends_at bound used (refused 11 0 (a.budget - used)) ≡ record { bound = 0; given = refused 11 0 a.budget } = rw sum in
        rw (ends (search_at a) a.budget bound more used (λ z. let y : ◌≡◌ {A = ℕ} 11 10 = ap (λ (h : Given). h.outcome.status) (sym e) ∙ z in omega arith), e)
        (rw over (ran {bound = bound} {used = used} need.1 (omega (arith, need.2))))
    one-bound g (none_found {tries} s k) e =
        let said : (search_at a bound (a.budget - used)).outcome.status ≡ 10 = ap (λ (h : Given). h.outcome.status) e in
        rw (goes_on (search_at a) a.budget bound more used said, e) (earlier l s (no_proof (a.budget - used) l said) (rest tries (omega arith)))
    one-bound g (found_fitting s k c x f) e = ends-here e (inl refl) (λ z. omega arith) s k c
    one-bound g (found_too_long s k c x f) e = ends-here e (inr refl) (λ z. omega arith) s k c

  pub trial : (more bound used : ℕ) → bound + more ≡ suc a.bound → used ≤ a.budget → Tried bound used (from_bound (search_at a) a.budget bound more used)
  trial zero bound used e w =
      rw (none_left (search_at a) a.budget bound used) (none {bound = bound} {used = used} {n = 0} {total = used} (past_the_limit {bound = bound} (omega arith)) (omega arith) w (λ k x y. absurd (omega arith)))
  trial (suc more) bound used e w =
      one-bound more bound used (omega arith) w e (λ tries v. trial more (suc bound) (used + tries) (omega arith) v)
      _ (says bound (a.budget - used) (omega arith)) refl
