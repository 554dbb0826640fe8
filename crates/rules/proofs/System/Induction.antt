-- Induction on a search that was made: what holds at each of its steps, if it holds of the steps below, holds of the whole.
use mathlib.Core.Path.{◌≡◌}
use mathlib.Core.Bool.{true, false}
use mathlib.Core.List.{List, [], ◌∷◌}
use Prim.Native.Nat.{ℕ, suc, ◌+◌}
use Rattle.rules.specs.System.{System, Ending, found, nothing, Searched, arrived, looked, none_left, failed, finds, in_vain_is}

module _ (S : System) where
  open S use {State, Move, done, moves, leads, fails}

  -- Of: what is claimed of a search from a state; OfRow: what is claimed of trying moves in turn.
  pub record Claim : Type 1 where
    pub Of : State → Ending Move → ℕ → Type 0
    pub OfRow : State → List Move → Ending Move → ℕ → Type 0
    pub if_arrived : {s : State} → done s ≡ true → Of s (found []) 0
    pub if_looked : {s : State} {o : Ending Move} {n : ℕ} → done s ≡ false → OfRow s (moves s) o n → Of s o n
    pub if_none_left : {s : State} → OfRow s [] nothing 0
    pub if_fails : {s : State} {m : Move} {ms : List Move} {o : Ending Move} {n : ℕ}
        → fails s m → OfRow s ms o n → OfRow s (m ∷ ms) o (suc n)
    pub if_finds : {s t : State} {m : Move} {ms p : List Move} {n : ℕ}
        → leads s m t → Of t (found p) n → OfRow s (m ∷ ms) (found (m ∷ p)) (suc n)
    pub if_in_vain : {s t : State} {m : Move} {ms : List Move} {o : Ending Move} {n k : ℕ}
        → leads s m t → Of t nothing n → OfRow s ms o k → OfRow s (m ∷ ms) o (suc (n + k))

  pub claimed : (C : Claim) {s : State} {o : Ending Move} {n : ℕ} → Searched S s o n → C.Of s o n
  claimed C d =
      elim d
      as (λ s o n _. C.Of s o n)
      (λ s ms o n _. C.OfRow s ms o n) [
        | arrived e ↦ C.if_arrived e
        | looked e (d → h) ↦ C.if_looked e h
        | none_left ↦ C.if_none_left
        | failed e (d → h) ↦ C.if_fails e h
        | finds e (d → h) ↦ C.if_finds e h
        | in_vain_is e (d → h) (r → k) ↦ C.if_in_vain e h k
      ]
