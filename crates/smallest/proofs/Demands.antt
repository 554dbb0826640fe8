-- Each statement of specs/SmallestDemands.antt is proved.
use mathlib.Core.Logic.{◌↔◌, ◌⊎◌, inl, inr, ◌≢◌}
use mathlib.Core.Option.{Option, none, some}
use mathlib.Core.Path.{◌≡◌, refl, sym, ap, ◌∙◌, subst}
use Prim.Native.Nat.{ℕ, zero, suc, ◌+◌, ◌-◌, ◌≤◌, ◌<◌}
use native.Mathlib.Decide.{dec_lt}
use native.Mathlib.Decide.{ℕ_discrete}
use native.Mathlib.Omega.{arith}
use Rattle.table.specs.Syntax.{Table}
use Rattle.table.specs.File.{table_in}
use Rattle.hukolearu.specs.Calls.{Given, SearchAsked, search_inputs}
use Rattle.hukolearu.specs.Door.{Fault, first_fault, checks, behind}
use Rattle.hukolearu.specs.Says.{SearchAccepted}
use Rattle.hukolearu.specs.CallDemands.{FoundStatus}
use Rattle.hukolearu.proofs.CallDemands.{same_with_larger_budget}
use Rattle.hukolearu.proofs.DoorLaws.{passed}
use Rattle.rules.specs.Setting.{every_leaf}
use Rattle.rules.proofs.ClosedTableaux.{larger_table}
use Rattle.rules.proofs.Demands.{order_does_not_matter}
use Rattle.smallest.specs.Smallest.{LeastGiven, ends_at, from_bound, search_at, refused_all, smallest_call}
use Rattle.smallest.specs.SmallestDemands as Demands
use Rattle.smallest.specs.SmallestDemands.{Provable, Needs, untold, with_limit}
use Rattle.smallest.proofs.Bounds.{goes_on, ends, none_left, ended_else}
use Rattle.smallest.proofs.AtTheDoor.{call_accepted}
use Rattle.smallest.proofs.Trials.{Trial, ran, none as none_at_all, proof, trial, needs_some, needs_one}

found_no_ten : {status : ℕ} → FoundStatus status → status ≢ 10
found_no_ten (inl z) e = omega arith
found_no_ten (inr z) e = omega arith

found_no_eleven : {status : ℕ} → FoundStatus status → status ≢ 11
found_no_eleven (inl z) e = omega arith
found_no_eleven (inr z) e = omega arith

pub needs_something : Demands.NeedsSomething
needs_something t limit bound = go (dec_lt limit bound)
  where
    go : Dec (limit < bound) → (tries : ℕ) × Needs t limit bound tries
    go (yes l) = (0, Demands.past_the_limit {bound = bound} l)
    go (no n) = needs_some t limit (suc limit - bound) bound (omega (arith, n))

pub needs_one_number : Demands.NeedsOneNumber
needs_one_number t limit bound m n = needs_one t limit

-- what the outcomes tell
module _ (t : Table) (limit budget : ℕ) (search : ℕ → ℕ → Given) where
  least : {r : LeastGiven} → Trial t limit budget search 0 0 r → FoundStatus r.given.outcome.status
      → (r.bound ≤ limit) × Provable t r.bound × ((bound : ℕ) → bound < r.bound → ¬ Provable t bound)
  least (ran n o) f = absurd (found_no_eleven f refl)
  least (none_at_all n e w h) f = absurd (found_no_ten f refl)
  least (proof {k = k} before {g = g} n e w b c h p f s) z =
      rw (← ended_else k (found_no_eleven f)) (c, p, λ j l. h j (omega arith) l)

  out_exactly : {r : LeastGiven} {tries : ℕ} → Trial t limit budget search 0 0 r → Needs t limit 0 tries
      → (r.given.outcome.status ≡ 11) ↔ (budget < tries)
  out_exactly (ran n o) m = let same = needs_one t limit n m in (λ _. omega arith, λ _. refl)
  out_exactly (none_at_all n e w h) m = let same = needs_one t limit n m in (λ z. absurd (omega arith), λ l. absurd (omega arith))
  out_exactly (proof before n e w b c h p f s) m =
      let same = needs_one t limit n m in (λ z. absurd (found_no_eleven f z), λ l. absurd (omega arith))

  none_exactly : {r : LeastGiven} → Trial t limit budget search 0 0 r → r.given.outcome.status ≢ 11
      → (r.given.outcome.status ≡ 10) ↔ ((bound : ℕ) → bound ≤ limit → ¬ Provable t bound)
  none_exactly (ran n o) z = absurd (z refl)
  none_exactly (none_at_all n e w h) z = (λ _. λ k l. h k (omega arith) l, λ _. refl)
  none_exactly (proof {k = k} before n e w b c h p f s) z = (λ x. absurd (found_no_ten f x), λ all. absurd (all k c p))

  summed : {r : LeastGiven} {tries : ℕ} → Trial t limit budget search 0 0 r → Needs t limit 0 tries
      → (r.given.outcome.status ≢ 11 → r.given.outcome.tries ≡ tries) × (r.given.outcome.status ≡ 11 → r.given.outcome.tries ≡ budget)
  summed (ran n o) m = (λ z. absurd (z refl), λ _. refl)
  summed (none_at_all n e w h) m = let same = needs_one t limit n m in (λ _. omega arith, λ z. absurd (omega arith))
  summed (proof before n e w b c h p f s) m =
      let same = needs_one t limit n m in (λ _. omega arith, λ z. absurd (found_no_eleven f z))

  that-searchs : ((k b d : ℕ) → (search k b).outcome.status ≢ 11 → b ≤ d → search k d ≡ search k b) → {r : LeastGiven} → Trial t limit budget search 0 0 r
      → FoundStatus r.given.outcome.status → (b : ℕ) → (search r.bound b).outcome.status ≢ 11 → untold r.given ≡ untold (search r.bound b)
  that-searchs steady (ran n o) f b m = absurd (found_no_eleven f refl)
  that-searchs steady (none_at_all n e w h) f b m = absurd (found_no_ten f refl)
  that-searchs steady (proof {k = k} before {g = g} n e w l c h p f s) z b m =
      let here : (search k b).outcome.status ≢ 11 = rw (← ended_else k (found_no_eleven f)) at m in
      let there : (search k (budget - before)).outcome.status ≢ 11 = λ x. found_no_eleven f (ap (λ (y : Given). y.outcome.status) s ∙ x) in
      rw (← ended_else k (found_no_eleven f)) (ap untold (s ∙ same here there (dec_lt b (budget - before))))
    where
      same : (search k b).outcome.status ≢ 11 → (search k (budget - before)).outcome.status ≢ 11 → Dec (b < budget - before) → search k (budget - before) ≡ search k b
      same here there (yes x) = steady k b (budget - before) here (omega arith)
      same here there (no x) = sym (steady k (budget - before) b there (omega (arith, x)))

  -- where a bound within the limit has a proof, one is found no later, or the budget ends
  proof-told : {r : LeastGiven} → Trial t limit budget search 0 0 r → {k : ℕ} → Provable t k → k ≤ limit
      → (FoundStatus r.given.outcome.status × (r.bound ≤ k)) ⊎ (r.given.outcome.status ≡ 11)
  proof-told (ran n o) p l = inr refl
  proof-told (none_at_all n e w h) {k} p l = absurd (h k (omega arith) l p)
  proof-told (proof {k = j} before {g = g} n e w b c h p f s) {k} q l = inl (f, rw (← ended_else j (found_no_eleven f)) (go (dec_lt k j)))
    where
      go : Dec (k < j) → j ≤ k
      go (yes x) = absurd (h k (omega arith) x q)
      go (no x) = omega (arith, x)

  found-unless : {r : LeastGiven} → Trial t limit budget search 0 0 r → r.given.outcome.status ≢ 10 → r.given.outcome.status ≢ 11
      → FoundStatus r.given.outcome.status
  found-unless (ran n o) x y = absurd (y refl)
  found-unless (none_at_all n e w h) x y = absurd (x refl)
  found-unless (proof before n e w b c h p f s) x y = f

  told-with-proof : {r : LeastGiven} → Trial t limit budget search 0 0 r → ¬ FoundStatus r.given.outcome.status → r.bound ≡ 0
  told-with-proof (ran n o) z = refl
  told-with-proof (none_at_all n e w h) z = refl
  told-with-proof (proof before n e w b c h p f s) z = absurd (z f)

-- a larger budget, for any searches that it leaves as they were
module _ (search : ℕ → ℕ → Given) (steady : (k b d : ℕ) → (search k b).outcome.status ≢ 11 → b ≤ d → search k d ≡ search k b) (budget larger : ℕ) (l : budget ≤ larger) where
  pub same_longer : (more bound used : ℕ) → (from_bound search budget bound more used).given.outcome.status ≢ 11
      → from_bound search larger bound more used ≡ from_bound search budget bound more used
  same_longer zero bound used n = none_left search larger bound used ∙ sym (none_left search budget bound used)
  same_longer (suc more) bound used n =
      go (λ u. same_longer more (suc bound) u) (ℕ_discrete (search bound (budget - used)).outcome.status 10)
    where
      go : ((u : ℕ) → (from_bound search budget (suc bound) more u).given.outcome.status ≢ 11
          → from_bound search larger (suc bound) more u ≡ from_bound search budget (suc bound) more u)
          → Dec ((search bound (budget - used)).outcome.status ≡ 10) → from_bound search larger bound (suc more) used ≡ from_bound search budget bound (suc more) used
      go later (yes e) =
          let same = steady bound (budget - used) (larger - used) (λ z. let y : ◌≡◌ {A = ℕ} 10 11 = sym e ∙ z in omega arith) (omega arith) in
          let long : (search bound (larger - used)).outcome.status ≡ 10 = rw same e in
          let on = goes_on search budget bound more used e in
          let rest = later (used + (search bound (budget - used)).outcome.tries) (rw (← on) n) in
          let then : from_bound search larger (suc bound) more (used + (search bound (larger - used)).outcome.tries)
          ≡ from_bound search budget (suc bound) more (used + (search bound (budget - used)).outcome.tries) = rw same rest in
          goes_on search larger bound more used long ∙ then ∙ sym on
      go later (no e) =
          let over = ends search budget bound more used e in
          let same = steady bound (budget - used) (larger - used) (λ z. (rw over at n) z) (omega arith) in
          let long : (search bound (larger - used)).outcome.status ≢ 10 = rw same e in
          let then : ends_at bound used (search bound (larger - used)) ≡ ends_at bound used (search bound (budget - used)) = rw same in
          ends search larger bound more used long ∙ then ∙ sym over

-- a higher limit
module _ (search : ℕ → ℕ → Given) (budget extra : ℕ) where
  pub same_higher : (more bound used : ℕ) → FoundStatus (from_bound search budget bound more used).given.outcome.status
      → from_bound search budget bound (more + extra) used ≡ from_bound search budget bound more used
  same_higher zero bound used f = absurd (found_no_ten f (ap (λ (r : LeastGiven). r.given.outcome.status) (none_left search budget bound used)))
  same_higher (suc more) bound used f =
      rw (plus more) (go (λ u. same_higher more (suc bound) u) (ℕ_discrete (search bound (budget - used)).outcome.status 10))
    where
      plus : (n : ℕ) → suc n + extra ≡ suc (n + extra)
      plus n = omega arith

      go : ((u : ℕ) → FoundStatus (from_bound search budget (suc bound) more u).given.outcome.status
          → from_bound search budget (suc bound) (more + extra) u ≡ from_bound search budget (suc bound) more u)
          → Dec ((search bound (budget - used)).outcome.status ≡ 10) → from_bound search budget bound (suc (more + extra)) used ≡ from_bound search budget bound (suc more) used
      go later (yes e) =
          let on = goes_on search budget bound more used e in
          goes_on search budget bound (more + extra) used e ∙ later (used + (search bound (budget - used)).outcome.tries) (rw (← on) f) ∙ sym on
      go later (no e) = ends search budget bound (more + extra) used e ∙ sym (ends search budget bound more used e)

-- the call
module _ (a : SearchAsked) (ok : SearchAccepted a) where
  tried : Trial (table_in a.file) a.bound a.budget (search_at a) 0 0 (smallest_call a)
  tried = rw (call_accepted a ok) (trial a ok (suc a.bound) 0 0 (omega arith) (omega arith))

steady : (a : SearchAsked) (k b d : ℕ) → (search_at a k b).outcome.status ≢ 11 → b ≤ d → search_at a k d ≡ search_at a k b
steady a k b d n l =
    same_with_larger_budget (record { file = a.file; bound = k; budget = b; proof_room = a.proof_room; answer_room = a.answer_room; work_room = a.work_room }) d n l

pub bound_is_least : Demands.BoundIsLeast
bound_is_least a ok f = least (table_in a.file) a.bound a.budget (search_at a) (tried a ok) f

pub ran_out_exactly : Demands.RanOutExactly
ran_out_exactly a ok tries m = out_exactly (table_in a.file) a.bound a.budget (search_at a) (tried a ok) m

pub none_up_to_the_limit : Demands.NoneExactly
none_up_to_the_limit a ok n = none_exactly (table_in a.file) a.bound a.budget (search_at a) (tried a ok) n

pub tries_are_summed : Demands.TriesAreSummed
tries_are_summed a ok tries m = summed (table_in a.file) a.bound a.budget (search_at a) (tried a ok) m

pub proof_is_that_searchs : Demands.ProofIsThatSearchs
proof_is_that_searchs a ok f budget n =
    that-searchs (table_in a.file) a.bound a.budget (search_at a) (steady a) (tried a ok) f budget n

-- a refusal at the door is told with bound 0, and looks at no budget
admitted_or_not : (a : SearchAsked) (x : Option Fault) → first_fault (checks a.file (search_inputs a)) ≡ x
    → ¬ FoundStatus (smallest_call a).given.outcome.status → (smallest_call a).bound ≡ 0
unfolding smallest_call behind
admitted_or_not a none e n =
    told-with-proof (table_in a.file) a.bound a.budget (search_at a) (tried a (passed a.file (search_inputs a) e)) n
admitted_or_not a (some fault) e n = rw e

pub bound_goes_with_proof : Demands.BoundGoesWithProof
bound_goes_with_proof a n = admitted_or_not a (first_fault (checks a.file (search_inputs a))) refl n

behind_either : (x : Option Fault) {r q : LeastGiven} → (r.given.outcome.status ≢ 11 → q ≡ r) → (behind x refused_all r).given.outcome.status ≢ 11
    → behind x refused_all q ≡ behind x refused_all r
unfolding behind
behind_either none same n = same n
behind_either (some fault) same n = refl

pub same_budget_larger : Demands.SameWithLargerBudget
unfolding smallest_call
same_budget_larger a larger n l =
    behind_either (first_fault (checks a.file (search_inputs a))) (same_longer (search_at a) (steady a) a.budget larger l (suc a.bound) 0 0) n

pub same_limit_higher : Demands.SameWithHigherLimit
same_limit_higher a limit ok l low f =
    let ok' : SearchAccepted (with_limit a limit) =
    record { enough_work = ok.enough_work; enough_proof = ok.enough_proof; low_bound = low; good_file = ok.good_file } in
    let f' = subst (λ (r : LeastGiven). FoundStatus r.given.outcome.status) (call_accepted a ok) f in
    let more : suc limit ≡ suc a.bound + (limit - a.bound) = omega arith in
    call_accepted (with_limit a limit) ok' ∙ rw more (same_higher (search_at a) a.budget (limit - a.bound) (suc a.bound) 0 0 f') ∙ sym (call_accepted a ok)

-- where a proof at every bound of one table goes over to another, the other's least bound is no larger, or its budget ends
carried : (a b : SearchAsked) → SearchAccepted a → SearchAccepted b
    → ((k : ℕ) → Provable (table_in a.file) k → Provable (table_in b.file) k) → a.bound ≤ b.bound → FoundStatus (smallest_call a).given.outcome.status
    → (FoundStatus (smallest_call b).given.outcome.status × ((smallest_call b).bound ≤ (smallest_call a).bound)) ⊎ ((smallest_call b).given.outcome.status ≡ 11)
carried a b ok ok' over l f =
    let once = bound_is_least a ok f in
    proof-told (table_in b.file) b.bound b.budget (search_at b) (tried b ok') (over (smallest_call a).bound once.1) (omega (arith, once.0))

pub never_later : Demands.NeverLater
never_later a b ok ok' grown l f = carried a b ok ok' (λ k p. (_, (larger_table grown p.1).0)) l f

in_time : {A : Type 0} {status : ℕ} → status ≢ 11 → A ⊎ (status ≡ 11) → A
in_time n (inl x) = x
in_time n (inr z) = absurd (n z)

-- the same table in another order: what is found for one is found for the other, no later
module _ (a b : SearchAsked) (ok : SearchAccepted a) (ok' : SearchAccepted b) (same : (k : ℕ) → Provable (table_in a.file) k → Provable (table_in b.file) k)
    (l : a.bound ≤ b.bound) (n : (smallest_call b).given.outcome.status ≢ 11) where
  there : FoundStatus (smallest_call a).given.outcome.status
      → FoundStatus (smallest_call b).given.outcome.status × ((smallest_call b).bound ≤ (smallest_call a).bound)
  there f = in_time n (carried a b ok ok' same l f)

pub same_bound_in_any_order : Demands.SameBoundInAnyOrder
same_bound_in_any_order a b ok ok' same l n m =
    ((λ f. (forth f).0, λ f. (back f).0), go (ℕ_discrete (smallest_call a).given.outcome.status 10))
  where
    forth : FoundStatus (smallest_call a).given.outcome.status
        → FoundStatus (smallest_call b).given.outcome.status × ((smallest_call b).bound ≤ (smallest_call a).bound)
    forth = there a b ok ok' (λ k. (order_does_not_matter every_leaf (table_in a.file) (table_in b.file) same k).0) (omega arith) m

    back : FoundStatus (smallest_call b).given.outcome.status
        → FoundStatus (smallest_call a).given.outcome.status × ((smallest_call a).bound ≤ (smallest_call b).bound)
    back = there b a ok' ok (λ k. (order_does_not_matter every_leaf (table_in a.file) (table_in b.file) same k).1) (omega arith) n

    go : Dec ((smallest_call a).given.outcome.status ≡ 10) → (smallest_call a).bound ≡ (smallest_call b).bound
    go (yes None-found) =
        bound_goes_with_proof a (λ f. found_no_ten f None-found) ∙ sym (bound_goes_with_proof b (λ f. found_no_ten (back f).0 None-found))
    go (no some-found) =
        let h = forth (found-unless (table_in a.file) a.bound a.budget (search_at a) (tried a ok) some-found n) in
        omega (arith, h.1, (back h.0).1)
