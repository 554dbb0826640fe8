-- Ways through a system, and which of two comes first; what the theorems ask of a system: that a try leads to one state alone or fails,
-- and that a number falls.
use mathlib.Core.Path.{◌≡◌}
use mathlib.Core.Bool.{true, false}
use mathlib.Core.List.{List, [], ◌∷◌}
use mathlib.Core.Logic.{◌⊎◌}
use Prim.Native.Nat.{ℕ, ◌<◌}
use Rattle.rules.specs.System.{System, ◌∈◌}

-- m stands earlier than n in a list.
pub data Earlier {A : Type 0} (m n : A) : List A → Type 0 where
  heads : {ms : List A} → n ∈ ms → Earlier m n (m ∷ ms)
  behind : {k : A} {ms : List A} → Earlier m n ms → Earlier m n (k ∷ ms)

-- No entry of a list stands in it twice.
pub data Distinct {A : Type 0} : List A → Type 0 where
  empty : Distinct []
  fresh : {m : A} {ms : List A} → ¬ (m ∈ ms) → Distinct ms → Distinct (m ∷ ms)

module _ (S : System) where
  open S use {State, Move, done, moves, leads, fails}

  -- A way: its moves lead from a state to the first done one, each a move of the state that it is made in.
  pub data Way : State → List Move → Type 0 where
    here : {s : State} → done s ≡ true → Way s []
    step : {s t : State} {m : Move} {p : List Move} → done s ≡ false → m ∈ moves s → leads s m t → Way t p → Way s (m ∷ p)

  -- One list of moves comes before another from a state: where they first differ, its move stands earlier among the moves of the state reached.
  pub data Before : State → List Move → List Move → Type 0 where
    differs : {s : State} {m n : Move} {p q : List Move} → Earlier m n (moves s) → Before s (m ∷ p) (n ∷ q)
    agrees : {s t : State} {m : Move} {p q : List Move} → leads s m t → Before t p q → Before s (m ∷ p) (m ∷ q)

  -- A try leads to one state alone, and does not fail then.
  pub record Determined : Type 0 where
    pub one_next : {s t u : State} {m : Move} → leads s m t → leads s m u → u ≡ t
    pub not_both : {s t : State} {m : Move} → leads s m t → ¬ fails s m

  -- A bounded system: a number falls along every move from a good state, good states lead to good states, and a try leads on or fails.
  pub record Bounded : Type 1 where
    pub Good : State → Type 0
    pub size : State → ℕ
    pub decides : {s : State} → Good s → (m : Move) → ((t : State) × leads s m t) ⊎ fails s m
    pub kept : {s t : State} {m : Move} → Good s → done s ≡ false → m ∈ moves s → leads s m t → Good t
    pub falls : {s t : State} {m : Move} → Good s → done s ≡ false → m ∈ moves s → leads s m t → size t < size s
