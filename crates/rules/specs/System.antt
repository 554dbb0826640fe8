-- Depth-first search over any system of states and moves: how it ends, and after how many tries. No budget, no depth, no algorithm.
-- Order.stated makes the tableaux such a system.
use Rattle.std.specs.Prelude.{◌≡◌, Bool, true, false, List, [], ◌∷◌, ℕ, suc, ◌+◌}

-- A system: a state is done or has moves to try, in the stated order; a try leads to a state, or fails.
pub record System : Type 1 where
  pub State : Type 0
  pub Move : Type 0
  pub done : State → Bool
  pub moves : State → List Move
  pub leads : State → Move → State → Type 0
  pub fails : State → Move → Type 0

-- How a search ends: with the moves found, or with none.
pub data Ending (M : Type 0) : Type 0 where
  found : List M → Ending M
  nothing : Ending M

-- m is in a list.
pub data ◌∈◌ {A : Type 0} (m : A) : List A → Type 0 where
  first : {ms : List A} → m ∈ (m ∷ ms)
  later : {k : A} {ms : List A} → m ∈ ms → m ∈ (k ∷ ms)

infix 40 ◌∈◌
module _ (S : System) where
  open S use {State, Move, done, moves, leads, fails}

  mutual
    -- The search from a state ends so, after so many tries.
    pub data Searched : State → Ending Move → ℕ → Type 0 where
      arrived : {s : State} → done s ≡ true → Searched s (found []) 0
      looked : {s : State} {o : Ending Move} {n : ℕ} → done s ≡ false → Tried s (moves s) o n → Searched s o n

    -- Trying these moves in turn ends so, after so many tries. Each move tried counts once, whether or not it fails; the search goes on
    -- from where it leads before it turns to the next move.
    pub data Tried : State → List Move → Ending Move → ℕ → Type 0 where
      none_left : {s : State} → Tried s [] nothing 0
      failed : {s : State} {m : Move} {ms : List Move} {o : Ending Move} {n : ℕ} → fails s m → Tried s ms o n → Tried s (m ∷ ms) o (suc n)
      finds : {s t : State} {m : Move} {ms p : List Move} {n : ℕ} → leads s m t → Searched t (found p) n
          → Tried s (m ∷ ms) (found (m ∷ p)) (suc n)
      in_vain_is : {s t : State} {m : Move} {ms : List Move} {o : Ending Move} {n k : ℕ} → leads s m t → Searched t nothing n → Tried s ms o k
          → Tried s (m ∷ ms) o (suc (n + k))
