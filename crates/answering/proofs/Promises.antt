-- What is promised of `ask`.
use Rattle.std.specs.Prelude.{Err}
use mathlib.Core.Bool.{Bool, true, false}
use mathlib.Core.List.{List}
use mathlib.Core.Logic.{inl, inr}
use mathlib.Core.Path.{◌≡◌, refl, sym, ap, ◌∙◌}
use Prim.Native.Nat.{ℕ, zero, suc, ◌+◌, ◌-◌, ◌≤◌}
use native.Mathlib.Omega.{arith}
use borrow.Author.Tests.{eqb-true, eqb-false, ne_eqb}
use lib.Dec.{eqb}
use lib.ListN.{length}
use Rattle.clausetext.specs.Syntax.{Clause}
use Rattle.clausetext.specs.Texts.{Verdict, counts, Says, Verdicts}
use Rattle.clausetext.proofs.Judgement.{only_verdict}
use Rattle.clausetext.proofs.OneReading.{one_reading}
use Rattle.hukolearu.specs.Calls.{Given, SearchAsked}
use Rattle.hukolearu.specs.Says.{SearchAccepted}
use Rattle.hukolearu.specs.CallDemands.{FoundStatus}
use Rattle.asking.specs.Program.{question, asked}
use Rattle.smallest.specs.Smallest.{LeastGiven, none_up_to, ends_at, ended, from_bound, search_at, smallest_call}
use Rattle.smallest.proofs.AtTheDoor.{call_accepted}
use Rattle.smallest.proofs.Bounds.{goes_on, ends, none_left}
use Rattle.answering.specs.declared.Options.{Options}
use Rattle.answering.specs.Looking.{LookedUp, up_to, look_from, looked}
use Rattle.answering.specs.Asking.{SaysOf, unasked, over, positive, answered, AskSays, unlimited, wrong, said}
use Rattle.answering.specs.Promises.{OneText, LookedAsSmallest}
use Rattle.answering.proofs.Looking.{Empty, asked_none, look_last, look_ended, look_on}

-- one outcome
said_once : {o : Options} {name text : List ℕ} {cs : List Clause} {a b : List ℕ} → SaysOf o name text cs a → SaysOf o name text cs b → a ≡ b
said_once (unasked m) (unasked n) = refl
said_once (unasked m) (over q f) = absurd (m q)
said_once (unasked m) (positive q f d) = absurd (m q)
said_once (unasked m) (answered q f d) = absurd (m q)
said_once (over q f) (unasked n) = absurd (n q)
said_once (over q f) (over p g) = refl
said_once (over q f) (positive p g d) = absurd (f g)
said_once (over q f) (answered p g d) = absurd (f g)
said_once (positive q f d) (unasked n) = absurd (n q)
said_once (positive q f d) (over p g) = absurd (g f)
said_once (positive q f d) (positive p g e) = refl
said_once (positive q f d) (answered p g e) = absurd (d e)
said_once (answered q f d) (unasked n) = absurd (n q)
said_once (answered q f d) (over p g) = absurd (g f)
said_once (answered q f d) (positive p g e) = absurd (e d)
said_once (answered q f d) (answered p g e) = refl

wrong_said : {text : List ℕ} {place : ℕ} {cs : List Clause} → Verdicts text (Err place) → length text ≤ 65536 → Says text cs → ⊥
wrong_said w h y =
    let e : Err _ ≡ counts _ _ = sym (only_verdict w) ∙ only_verdict (Verdicts.fine h y) in
    let z : ◌≡◌ {A = ℕ} 0 1 = cc in omega (arith, z)

once : {o : Options} {name text a b : List ℕ} → AskSays o name text a → AskSays o name text b → a ≡ b
once (unlimited h) (unlimited k) = refl
once (unlimited h) (wrong k w) = absurd (omega (arith, h, k))
once (unlimited h) (said k l y s) = absurd (omega (arith, h, k))
once (wrong h v) (unlimited k) = absurd (omega (arith, h, k))
once (wrong {place = p} h v) (wrong {place = q} k w) =
    let e : ◌≡◌ {A = Verdict} (Err p) (Err q) = sym (only_verdict v) ∙ only_verdict w in
    let z : p ≡ q = cc in rw z
once (wrong h v) (said k l y s) = absurd (wrong_said v l y)
once (said h l y s) (unlimited k) = absurd (omega (arith, h, k))
once (said h l y s) (wrong k w) = absurd (wrong_said w l y)
once (said h l y s) (said k m z t) = said_once s (rw (one_reading z y) at t)

pub one_text : OneText
one_text o name text a b x y = once x y

-- as the call of order 6
record Both (g : LeastGiven) (l : LookedUp) : Type 0 where
  status : g.given.outcome.status ≡ l.given.outcome.status
  tries : g.given.outcome.tries ≡ l.tries
  disjuncts : g.given.outcome.disjuncts ≡ l.given.outcome.disjuncts
  proof : g.given.proof ≡ l.given.proof
  answer : g.given.answer ≡ l.given.answer
  bound : FoundStatus l.given.outcome.status → g.bound ≡ l.bound

-- a search that ends both
both_end : (bound used : ℕ) (g : Given) → Both (ends_at bound used g) (up_to bound used g)
both_end bound used g = record { status = refl; tries = refl; disjuncts = refl; proof = refl; answer = refl; bound = told }
  where
    told : FoundStatus g.outcome.status → ended bound g.outcome.status ≡ bound
    told (inl e) = rw (ne_eqb g.outcome.status 11 (λ z. omega (arith, e, z)))
    told (inr e) = rw (ne_eqb g.outcome.status 11 (λ z. omega (arith, e, z)))

-- "none" at the last bound
both_none : (bound used : ℕ) (g : Given) → g.outcome.status ≡ 10 → Empty g → Both (none_up_to (used + g.outcome.tries)) (up_to bound used g)
both_none bound used g e m = record { status = sym e; tries = refl; disjuncts = sym m.disjuncts; proof = sym m.proof; answer = sym m.answer; bound = told }
  where
    told : FoundStatus g.outcome.status → 0 ≡ bound
    told (inl z) = absurd (omega (arith, e, z))
    told (inr z) = absurd (omega (arith, e, z))

module _ (search : ℕ → ℕ → Given) (budget limit : ℕ) (empty : (k b : ℕ) → k ≤ limit → (search k b).outcome.status ≡ 10 → Empty (search k b)) where
  both : (more bound used : ℕ) → bound + more ≡ limit → Both (from_bound search budget bound (suc more) used) (look_from search budget bound more used)
  both zero bound used e = go (eqb (search bound (budget - used)).outcome.status 10) refl
    where
      go : (b : Bool) → eqb (search bound (budget - used)).outcome.status 10 ≡ b → Both (from_bound search budget bound 1 used) (look_from search budget bound 0 used)
      go true t =
          let z = eqb-true (search bound (budget - used)).outcome.status 10 t in
          rw (goes_on search budget bound 0 used z, none_left search budget (suc bound) (used + (search bound (budget - used)).outcome.tries), look_last search budget bound used {more = 0} refl)
          (both_none bound used (search bound (budget - used)) z (empty bound (budget - used) (omega (arith, e)) z))
      go false t =
          rw (ends search budget bound 0 used (eqb-false (search bound (budget - used)).outcome.status 10 t), look_last search budget bound used {more = 0} refl)
          (both_end bound used (search bound (budget - used)))
  both (suc more) bound used e = go (eqb (search bound (budget - used)).outcome.status 10) refl (both more (suc bound) (used + (search bound (budget - used)).outcome.tries) (omega (arith, e)))
    where
      go : (b : Bool) → eqb (search bound (budget - used)).outcome.status 10 ≡ b
          → Both (from_bound search budget (suc bound) (suc more) (used + (search bound (budget - used)).outcome.tries)) (look_from search budget (suc bound) more (used + (search bound (budget - used)).outcome.tries))
          → Both (from_bound search budget bound (suc (suc more)) used) (look_from search budget bound (suc more) used)
      go true t ih =
          let z = eqb-true (search bound (budget - used)).outcome.status 10 t in
          rw (goes_on search budget bound (suc more) used z, look_on search budget bound used {more = suc more} {rest = more} refl z) ih
      go false t ih =
          let n = eqb-false (search bound (budget - used)).outcome.status 10 t in
          rw (ends search budget bound (suc more) used n, look_ended search budget bound used (suc more) n) (both_end bound used (search bound (budget - used)))

pub looked_as_smallest : LookedAsSmallest
unfolding looked asked
looked_as_smallest file limit budget ok low =
    let a : SearchAsked = question file limit budget in
    let admitted : SearchAccepted a = record { enough_work = omega arith; enough_proof = omega arith; low_bound = low; good_file = ok } in
    let b = both (search_at a) budget limit (λ k c h z. asked_none file k c ok (omega (arith, h, low)) z) limit 0 0 (omega arith) in
    let e : smallest_call a ≡ from_bound (search_at a) budget 0 (suc limit) 0 = call_accepted a admitted in
    record {
      status = ap (λ (g : LeastGiven). g.given.outcome.status) e ∙ b.status;
      tries = ap (λ (g : LeastGiven). g.given.outcome.tries) e ∙ b.tries;
      disjuncts = ap (λ (g : LeastGiven). g.given.outcome.disjuncts) e ∙ b.disjuncts;
      proof = ap (λ (g : LeastGiven). g.given.proof) e ∙ b.proof;
      answer = ap (λ (g : LeastGiven). g.given.answer) e ∙ b.answer;
      bound = λ f. ap (λ (g : LeastGiven). g.bound) e ∙ b.bound f;
    }
