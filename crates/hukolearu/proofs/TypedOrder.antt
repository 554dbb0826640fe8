-- Order 10: what is found of a table is found of it in any other order, over any profile; so two runs that don't run out are alike.
use mathlib.Core.Logic.{◌⊎◌, inl, inr, ◌≢◌}
use mathlib.Core.Path.{◌≡◌, refl}
use Prim.Native.Nat.{ℕ}
use Rattle.table.specs.File.{table_in}
use Rattle.rules.specs.Reordered.{empty, next, swapped, in_turn}
use Rattle.rules.specs.Setting.{Profile, Setting, every_leaf, over}
use Rattle.rules.proofs.Demands.{order_does_not_matter}
use Rattle.hukolearu.specs.Calls.{Given, room_of, search_call}
use Rattle.hukolearu.specs.Says.{SearchSays, ran_out, none_found, found_fitting, found_too_long}
use Rattle.hukolearu.specs.CallDemands.{FoundStatus}
use Rattle.hukolearu.specs.Typed as Typed
use Rattle.hukolearu.proofs.CallCases.{called}
use Rattle.hukolearu.proofs.CallDemands.{search_says, closed_said, none_said}

found_or_none : {S : Setting} {budget room : ℕ} {g : Given} → SearchSays S budget room g → g.outcome.status ≢ 11
    → FoundStatus g.outcome.status ⊎ (g.outcome.status ≡ 10)
found_or_none (ran_out s l) n = absurd (n refl)
found_or_none (none_found s l) n = inr refl
found_or_none (found_fitting s l c a f) n = inl (inl refl)
found_or_none (found_too_long s l c a f) n = inl (inr refl)

pub typed_in_any_order_for : (rules : Profile) → Typed.TypedInAnyOrderFor rules
typed_in_any_order_for rules t u same bound budget budget' room room' g h says said n m = go (found_or_none says n) (found_or_none said m)
  where
    go : FoundStatus g.outcome.status ⊎ (g.outcome.status ≡ 10) → FoundStatus h.outcome.status ⊎ (h.outcome.status ≡ 10)
        → Typed.Alike g.outcome.status h.outcome.status
    go (inl f) (inl e) = inl (f, e)
    go (inl f) (inr z) =
        let c = (order_does_not_matter rules t u same bound).0 (closed_said (over rules t bound) says f) in
        absurd ((none_said (over rules u bound) said m).0 z c.0 c.1)
    go (inr z) (inl e) =
        let c = (order_does_not_matter rules t u same bound).1 (closed_said (over rules u bound) said e) in
        absurd ((none_said (over rules t bound) says n).0 z c.0 c.1)
    go (inr z) (inr y) = inr (z, y)

pub typed_in_any_order : Typed.TypedInAnyOrder
typed_in_any_order a b ok ok' same e n m =
    typed_in_any_order_for every_leaf (table_in a.file) (table_in b.file) same a.bound a.budget b.budget (room_of a.answer_room) (room_of b.answer_room) (search_call a) (search_call b) (search_says a ok) (rw e (search_says b ok')) n m

-- the two files of the example
pub typed_otherwise : Typed.TypedOtherwise
unfolding called
typed_otherwise = (
  record {
    clauses =
        in_turn swapped
        (next (record { variables = refl; literals = swapped }) (next (record { variables = refl; literals = next refl (next refl empty) }) empty));
    question = record { variables = refl; literals = next refl empty };
  },
  refl,
)
