-- The call by what it learns at the door: one law for each outcome.
use mathlib.Core.Bool.{false}
use mathlib.Core.List.{List, []}
use mathlib.Core.Path.{◌≡◌}
use Prim.Native.Nat.{ℕ}
use Rattle.text.specs.Put.{Put}
use Rattle.text.proofs.Putting.{begin, finish}
use Rattle.hukolearu.specs.Door.{entry_of}
use Rattle.std.specs.Prelude.{Result, Ok, Err}
use Rattle.hukolearu.specs.declared.door.Refusal.{Refusal}
use Rattle.hukolearu.proofs.DoorLaws.{opened, shut, inside}
use Rattle.bound_literals.specs.Bound.{asked, bound_literals}
use Rattle.bound_literals.specs.Held.{slots_after}

module _ (f : List ℕ) (bound : ℕ) (steps : List ℕ) (work : ℕ) {entry : Result ℕ Refusal} (says : entry ≡ entry_of f (asked bound work)) where
  pub call_refused : {refusal : Refusal} → entry ≡ Err refusal → (out : List ℕ) → Put out 0 (bound_literals f bound steps work) out 0
  unfolding bound_literals
  call_refused e out =
      let z : bound_literals f bound steps work ≡ [] = shut f (asked bound work) says e _ _ in rw z (finish (begin out 0 []))

  pub call_admitted : {question : ℕ} → entry ≡ Ok question → {o₀ o₁ : List ℕ} {n : ℕ} → Put o₀ 0 (slots_after f (record { bound = bound; restarts = false }) steps) o₁ n
      → Put o₀ 0 (bound_literals f bound steps work) o₁ n
  unfolding bound_literals
  call_admitted e p =
      let z : bound_literals f bound steps work ≡ slots_after f (record { bound = bound; restarts = false }) steps = inside (opened f (asked bound work) says e) _ _ in rw z p
