-- What the call tells by what it learns at the door: refused as a search is, or the bounds in turn.
use mathlib.Core.List.{List}
use mathlib.Core.Path.{◌≡◌, refl, ◌∙◌}
use Prim.Native.Nat.{ℕ, zero, suc, ◌+◌, ◌-◌, ◌≤◌, ◌<◌}
use native.Mathlib.Omega.{arith}
use Rattle.table.specs.File.{table_in}
use Rattle.hukolearu.specs.Calls.{Given, refused, SearchAsked, search_inputs}
use Rattle.hukolearu.specs.Says.{SearchAccepted}
use Rattle.hukolearu.specs.Door.{entry_of}
use Rattle.hukolearu.specs.declared.Outcome.{Outcome}
use Rattle.std.specs.Prelude.{Result, Err}
use Rattle.hukolearu.specs.declared.door.Refusal.{Refusal}
use Rattle.hukolearu.proofs.DoorLaws.{shut, inside}
use Rattle.hukolearu.proofs.Says.{search_accepted}
use Rattle.smallest.specs.Smallest.{LeastGiven, from_bound, search_at, refused_all, smallest_call}
use Rattle.smallest.specs.Trying.{Tells, search_inside, tried_inside}
use Rattle.smallest.specs.declared.Least.{Least}

-- searches that say the same at every bound that is tried lead to the same
pub same_searches : (s u : ℕ → ℕ → Given) (budget bound more used : ℕ) → ((k b : ℕ) → k < bound + more → s k b ≡ u k b)
    → from_bound s budget bound more used ≡ from_bound u budget bound more used
unfolding from_bound
same_searches s u budget bound zero used same = refl
same_searches s u budget bound (suc more) used same =
    let here : s bound (budget - used) ≡ u bound (budget - used) = same bound (budget - used) (omega arith) in
    rw (here, same_searches s u budget (suc bound) more (used + (u bound (budget - used)).outcome.tries) (λ k b l. same k b (omega arith)))

-- an accepted call is accepted at every bound up to its limit
pub accepted_at : (a : SearchAsked) → SearchAccepted a → (bound budget : ℕ) → bound ≤ a.bound
    → SearchAccepted
    (record {
      file = a.file;
      bound = bound;
      budget = budget;
      proof_room = a.proof_room;
      answer_room = a.answer_room;
      work_room = a.work_room;
    })
accepted_at a ok bound budget l =
    record { enough_work = ok.enough_work; enough_proof = ok.enough_proof; low_bound = omega (arith, ok.low_bound); good_file = ok.good_file }

pub call_accepted : (a : SearchAsked) → SearchAccepted a → smallest_call a ≡ from_bound (search_at a) a.budget 0 (suc a.bound) 0
unfolding smallest_call
call_accepted a ok = inside ok refused_all (from_bound (search_at a) a.budget 0 (suc a.bound) 0)

pub call_inside : (a : SearchAsked) → SearchAccepted a → smallest_call a ≡ tried_inside (table_in a.file) a.answer_room a.budget a.bound
call_inside a ok =
    call_accepted a ok
    ∙ same_searches (search_at a) (search_inside (table_in a.file) a.answer_room) a.budget 0 (suc a.bound) 0
    (λ k b l. search_accepted _ (accepted_at a ok k b (omega arith)))

module _ (a : SearchAsked) {entry : Result ℕ Refusal} (says : entry ≡ entry_of a.file (search_inputs a)) where
  pub call_refused : {refusal : Refusal} → entry ≡ Err refusal → smallest_call a ≡ record { bound = 0; given = refused refusal.status refusal.place 0 }
  unfolding smallest_call
  call_refused e = shut a.file (search_inputs a) says e refused_all _

pub tells_refusal : {g : LeastGiven} {status place : ℕ} → g ≡ record { bound = 0; given = refused status place 0 } → {r : Outcome} (proof answer : List ℕ)
    → r ≡ (refused status place 0).outcome → Tells g (record { bound = 0; outcome = r }) proof proof answer answer
tells_refusal e proof answer h = rw e (record { bound = refl; numbers = h; steps = refl; words = refl })

pub tells_same : {g h : LeastGiven} → g ≡ h → {r : Least} {proof proof' answer answer' : List ℕ} → Tells h r proof proof' answer answer'
    → Tells g r proof proof' answer answer'
tells_same e t = rw e t
