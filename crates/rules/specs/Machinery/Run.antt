-- Machinery: the search as a program, with a budget of tries and a depth that is never reached.
-- What it has to do with System.Searched is proved in proofs/System: where the depth is over the size of the state, the depth makes no difference.
use Rattle.std.specs.Prelude.{◌≡◌, Bool, true, false, List, [], ◌∷◌, ℕ, zero, suc}
use Rattle.std.proofs.Math.Option.{Option, none, some}
use Rattle.rules.specs.System.{System, Ending, found, nothing}

-- A system whose tries are computed: the next state, or none.
pub record Program : Type 1 where
  pub State : Type 0
  pub Move : Type 0
  pub done : State → Bool
  pub moves : State → List Move
  pub next : State → Move → Option State

abbrev pub system : Program → System
system P =
    record {
      State = P.State;
      Move = P.Move;
      done = P.done;
      moves = P.moves;
      leads = λ s m t. P.next s m ≡ some t;
      fails = λ s m. P.next s m ≡ none;
    }

-- A way and the tries left, no way and the tries left, or the tries ran out.
pub data Result (M : Type 0) : Type 0 where
  way : List M → ℕ → Result M
  no_way : ℕ → Result M
  ran_out : Result M

module _ {M : Type 0} where
  -- an outcome with the tries left
  abbrev pub verdict : Ending M → ℕ → Result M
  verdict (found p) left = way p left
  verdict nothing left = no_way left

  -- the same result one move further up
  unfoldable pub put : M → Result M → Result M
  put m (way p left) = way (m ∷ p) left
  put m (no_way left) = no_way left
  put m ran_out = ran_out

  -- where there is no way, go on with the tries left
  unfoldable pub after : Result M → (ℕ → Result M) → Result M
  after (way p left) rest = way p left
  after (no_way left) rest = rest left
  after ran_out rest = ran_out

  -- one try from the budget
  unfoldable pub spend : ℕ → (ℕ → Result M) → Result M
  spend zero rest = ran_out
  spend (suc left) rest = rest left

module _ (P : Program) where
  open P use {State, Move, done, moves, next}

  module _ (below : ℕ → State → Result Move) where
    -- a move that was tried: on from the next state, if there is one
    unfoldable pub enter : ℕ → Move → Option State → Result Move
    enter budget m none = no_way budget
    enter budget m (some t) = put m (below budget t)

    -- the moves in turn
    unfoldable pub in_turn : ℕ → State → List Move → Result Move
    in_turn budget s [] = no_way budget
    in_turn budget s (m ∷ ms) = spend budget (λ left. after (enter left m (next s m)) (λ rest. in_turn rest s ms))

    unfoldable pub visit : Bool → ℕ → State → Result Move
    visit true budget s = way [] budget
    visit false budget s = in_turn budget s (moves s)

  -- The search from a state to a depth with a budget.
  unfoldable pub search : ℕ → ℕ → State → Result Move
  search zero budget s = ran_out
  search (suc depth) budget s = visit (search depth) (done s) budget s

  -- One move tried, its try already paid; and a row of moves tried in turn.
  unfoldable pub one : ℕ → ℕ → State → Move → Result Move
  one depth budget s m = enter (search depth) budget m (next s m)

  unfoldable pub row : ℕ → ℕ → State → List Move → Result Move
  row depth budget s ms = in_turn (search depth) budget s ms
