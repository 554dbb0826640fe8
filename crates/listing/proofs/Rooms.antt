-- The room for an answer plays no part: the checker accepts or refuses a proof whatever it is.
use borrow.Author.Tests.{le-leb, leb-true}
use lib.Dec.{leb}
use lib.ListN.{length}
use mathlib.Core.Bool.{Bool, true, false, cond}
use mathlib.Core.List.{List, map}
use mathlib.Core.Logic.{◌↔◌, inl, inr}
use mathlib.Core.Option.{Option, none, some}
use mathlib.Core.Path.{◌≡◌, refl, sym, ap, ◌∙◌}
use native.Mathlib.Omega.{arith}
use Prim.Native.Nat.{ℕ, ◌≤◌}
use Rattle.words.specs.Steps.{step_of}
use Rattle.table.specs.File.{table_in}
use Rattle.table.specs.Syntax.{Table}
use Rattle.rules.specs.Verdict.{Refusal}
use Rattle.rules.specs.Machinery.Play.{Play, Checking, passed, stopped, check, answer_of}
use Rattle.hukolearu.specs.Calls as Calls
use Rattle.hukolearu.specs.declared.Outcome.{Outcome}
use Rattle.hukolearu.specs.Calls.{room_of, answered, check_given, check_inputs, check_setting, check_call, refused_by}
use Rattle.hukolearu.specs.CallDemands.{check_status, FoundStatus}
use Rattle.hukolearu.specs.Door.{Fault, first_fault, checks, behind}
use Rattle.clauselines.specs.Call.{Given, refused, granted, if_it_fits}
use Rattle.listing.specs.Lines.{listing_text}
use Rattle.listing.specs.Call.{ListingAsked, check_of, accepts, after_check, listing_call}
use Rattle.listing.proofs.Telling.{found_status}

-- a proof that is passed is accepted, its answer fitting or not
either_accepts : (b : Bool) (x y : Calls.Given) → accepts x.outcome.status ≡ true → accepts y.outcome.status ≡ true → accepts (cond b x y).outcome.status ≡ true
either_accepts true x y h k = h
either_accepts false x y h k = k

passed_accepts : (t : Table) (steps room : ℕ) (p : Play) → accepts (check_given t steps room (passed p)).outcome.status ≡ true
unfolding check_given answered
passed_accepts t steps room p = either_accepts (leb (length (answer_of t p)) (room_of room)) _ _ refl refl

stopped_given : (t : Table) (steps room other : ℕ) (why : Refusal) (place : ℕ) → check_given t steps room (stopped why place) ≡ check_given t steps other (stopped why place)
unfolding check_given
stopped_given t steps room other why place = refl

module _ (a : ListingAsked) (room other : ℕ) where
  accepted-same : (o q : Outcome) → accepts o.status ≡ true → accepts q.status ≡ true → after_check a o ≡ after_check a q
  unfolding after_check
  accepted-same o q e f = rw (e, f) refl

  given-same : (t : Table) (steps : ℕ) (k : Checking) → after_check a (check_given t steps room k).outcome ≡ after_check a (check_given t steps other k).outcome
  given-same t steps (passed p) = accepted-same _ _ (passed_accepts t steps room p) (passed_accepts t steps other p)
  given-same t steps (stopped why place) = ap (λ (g : Calls.Given). after_check a g.outcome) (stopped_given t steps room other why place)

  behind-same : (x : Option Fault) (g h : Calls.Given) → after_check a g.outcome ≡ after_check a h.outcome
      → after_check a (behind x refused_by g).outcome ≡ after_check a (behind x refused_by h).outcome
  unfolding behind
  behind-same none g h e = e
  behind-same (some fault) g h e = refl

  pub same_with_room : after_check a (check_call (check_of a room)).outcome ≡ after_check a (check_call (check_of a other)).outcome
  unfolding check_call
  same_with_room =
      behind-same (first_fault (checks a.file (check_inputs (check_of a room)))) _ _
      (given-same (table_in a.file) (length a.offered) (check (check_setting (check_of a room)) (map step_of a.offered)))

pub no_part : (a : ListingAsked) (room : ℕ) → listing_call a ≡ after_check a (check_call (check_of a room)).outcome
unfolding listing_call
no_part a room = same_with_room a 0 room

-- a listing is given exactly where the checker accepts and the text fits
found_accepts : (status : ℕ) → FoundStatus status → accepts status ≡ true
found_accepts status (inl e) = rw e refl
found_accepts status (inr e) = rw e refl

fits_done : (text : List ℕ) (room : ℕ) → ((if_it_fits text room).outcome.status ≡ 0) ↔ (length text ≤ room)
unfolding if_it_fits
fits_done text room = (λ e. leb-true (length text) room (fitting (leb (length text) room) e), λ h. rw (le-leb (length text) room h))
  where
    fitting : (b : Bool) → (cond b (granted text) (refused 16 0)).outcome.status ≡ 0 → b ≡ true
    fitting true e = refl
    fitting false e = absurd (omega arith)

module _ (a : ListingAsked) (room : ℕ) where
  status-of : (b : Bool) → accepts (check_status (check_of a room)) ≡ b
      → listing_call a ≡ cond b (if_it_fits (listing_text (table_in a.file) (map step_of a.offered)) a.listing_room) (refused (check_status (check_of a room)) (check_call (check_of a room)).outcome.place)
  unfolding after_check
  status-of b e = no_part a room ∙ rw e refl

  pub exactly : ((listing_call a).outcome.status ≡ 0) ↔ (FoundStatus (check_status (check_of a room)) × (length (listing_text (table_in a.file) (map step_of a.offered)) ≤ a.listing_room))
  exactly = (
    λ z. into (accepts (check_status (check_of a room))) refl z,
    λ h. ap (λ (g : Given). g.outcome.status) (status-of true (found_accepts (check_status (check_of a room)) h.0))
        ∙ (fits_done (listing_text (table_in a.file) (map step_of a.offered)) a.listing_room).1 h.1,
  )
    where
      into : (b : Bool) → accepts (check_status (check_of a room)) ≡ b → (listing_call a).outcome.status ≡ 0
          → FoundStatus (check_status (check_of a room)) × (length (listing_text (table_in a.file) (map step_of a.offered)) ≤ a.listing_room)
      into true e z = (
        found_status (check_status (check_of a room)) e,
        (fits_done (listing_text (table_in a.file) (map step_of a.offered)) a.listing_room).0 (ap (λ (g : Given). g.outcome.status) (sym (status-of true e)) ∙ z),
      )
      into false e z =
          let refusal : check_status (check_of a room) ≡ 0 = ap (λ (g : Given). g.outcome.status) (sym (status-of false e)) ∙ z in
          let both : ◌≡◌ {A = Bool} true false = sym (found_accepts (check_status (check_of a room)) (inl refusal)) ∙ e in
          let n : ◌≡◌ {A = ℕ} 0 1 = cc in
          absurd (omega arith)
