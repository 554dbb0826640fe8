-- The step laws of the machine, one for each outcome: what a loop over the moves of a state is proved against.
use mathlib.Core.Path.{◌≡◌, refl, ap, ◌∙◌}
use mathlib.Core.Bool.{true, false}
use mathlib.Core.Option.{none, some}
use mathlib.Core.List.{List, [], ◌∷◌}
use Prim.Native.Nat.{ℕ, suc, ◌-◌, ◌<◌}
use native.Mathlib.Omega.{arith}
use Rattle.rules.specs.Machinery.Run.{Program, Result, way, no_way, ran_out, put, after, spend, enter, in_turn, visit, search, one, row}

module _ (P : Program) where
  open P use {State, Move, done, moves, next}

  pub search_zero : (budget : ℕ) (s : State) → search P 0 budget s ≡ ran_out
  unfolding search
  search_zero budget s = refl

  pub search_done : (depth budget : ℕ) (s : State) → done s ≡ true → search P (suc depth) budget s ≡ way [] budget
  unfolding search visit
  search_done depth budget s e = rw (e, visit)

  pub search_open : (depth budget : ℕ) (s : State) → done s ≡ false → search P (suc depth) budget s ≡ row P depth budget s (moves s)
  unfolding search visit row
  search_open depth budget s e = rw (e, visit)

  pub one_fails : (depth budget : ℕ) (s : State) (m : Move) → next s m ≡ none → one P depth budget s m ≡ no_way budget
  unfolding one enter
  one_fails depth budget s m e = rw (e, enter)

  pub one_enters : (depth budget : ℕ) (s : State) (m : Move) (t : State) → next s m ≡ some t → one P depth budget s m ≡ put m (search P depth budget t)
  unfolding one enter
  one_enters depth budget s m t e = rw (e, enter)

  pub row_end : (depth budget : ℕ) (s : State) → row P depth budget s [] ≡ no_way budget
  unfolding row in_turn
  row_end depth budget s = refl

  pub row_broke : (depth : ℕ) (s : State) (m : Move) (ms : List Move) → row P depth 0 s (m ∷ ms) ≡ ran_out
  unfolding row in_turn spend
  row_broke depth s m ms = refl

  pub row_step : (depth budget : ℕ) (s : State) (m : Move) (ms : List Move)
      → row P depth (suc budget) s (m ∷ ms) ≡ after (one P depth budget s m) (λ left. row P depth left s ms)
  unfolding row in_turn spend one
  row_step depth budget s m ms = refl

-- The same in a loop's own form: the budget is tested and lowered, the depth lowered, and a callee's result is known.
module _ (P : Program) (depth budget : ℕ) where
  open P use {State, Move, done, moves, next}

  module _ (s : State) (m : Move) (t : State) (e : next s m ≡ some t) where
    pub one_found : (p : List Move) (left : ℕ) → search P depth budget t ≡ way p left → one P depth budget s m ≡ way (m ∷ p) left
    unfolding put
    one_found p left f = one_enters P depth budget s m t e ∙ ap (put m) f

    pub one_no_way : (left : ℕ) → search P depth budget t ≡ no_way left → one P depth budget s m ≡ no_way left
    unfolding put
    one_no_way left f = one_enters P depth budget s m t e ∙ ap (put m) f

    pub one_ran_out : search P depth budget t ≡ ran_out → one P depth budget s m ≡ ran_out
    unfolding put
    one_ran_out f = one_enters P depth budget s m t e ∙ ap (put m) f

  module _ (s : State) (m : Move) (ms : List Move) where
    pub row_no_budget : budget ≡ 0 → row P depth budget s (m ∷ ms) ≡ ran_out
    row_no_budget e = ap (λ (b : ℕ). row P depth b s (m ∷ ms)) e ∙ row_broke P depth s m ms

    -- one try taken from the budget
    pub row_try : 0 < budget → row P depth budget s (m ∷ ms) ≡ after (one P depth (budget - 1) s m) (λ left. row P depth left s ms)
    row_try h =
        let k : budget ≡ suc (budget - 1) = omega arith in
        ap (λ (b : ℕ). row P depth b s (m ∷ ms)) k ∙ row_step P depth (budget - 1) s m ms

    pub row_found : (p : List Move) (left : ℕ) → 0 < budget → one P depth (budget - 1) s m ≡ way p left
        → row P depth budget s (m ∷ ms) ≡ way p left
    unfolding after
    row_found p left h f = row_try h ∙ ap (λ (r : Result Move). after r (λ l. row P depth l s ms)) f

    pub row_goes_on : (left : ℕ) → 0 < budget → one P depth (budget - 1) s m ≡ no_way left
        → row P depth budget s (m ∷ ms) ≡ row P depth left s ms
    unfolding after
    row_goes_on left h f = row_try h ∙ ap (λ (r : Result Move). after r (λ l. row P depth l s ms)) f

    pub row_runs_out : 0 < budget → one P depth (budget - 1) s m ≡ ran_out → row P depth budget s (m ∷ ms) ≡ ran_out
    unfolding after
    row_runs_out h f = row_try h ∙ ap (λ (r : Result Move). after r (λ l. row P depth l s ms)) f
