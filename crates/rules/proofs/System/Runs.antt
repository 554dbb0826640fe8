-- Two systems that behave alike have the same run of the machine, whatever the depth and the budget.
use mathlib.Core.Path.{◌≡◌, refl, ap, sym, ◌∙◌}
use mathlib.Core.Bool.{Bool, true, false}
use mathlib.Core.Option.{Option, none, some}
use mathlib.Core.List.{List, [], ◌∷◌, map}
use Prim.Native.Nat.{ℕ, zero, suc}
use Rattle.rules.specs.System.{◌∈◌, first, later}
use Rattle.rules.specs.Machinery.Run.{Program, system, Result, way, no_way, ran_out, put, after, search, one, row}
use Rattle.rules.proofs.System.Simulation.{Simulation, renamed_result}
use Rattle.rules.proofs.System.Steps.{search_zero, search_done, search_open, one_fails, one_enters, row_end, row_broke, row_step}

module _ {M N : Type 0} (f : M → N) where
  renamed-put : (m : M) (r : Result M) → put (f m) (renamed_result f r) ≡ renamed_result f (put m r)
  unfolding put
  renamed-put m (way p left) = refl
  renamed-put m (no_way left) = refl
  renamed-put m ran_out = refl

  renamed-after : (r : Result M) (rest : ℕ → Result M) (rest' : ℕ → Result N)
      → ((left : ℕ) → rest' left ≡ renamed_result f (rest left)) → after (renamed_result f r) rest' ≡ renamed_result f (after r rest)
  unfolding after
  renamed-after (way p left) rest rest' h = refl
  renamed-after (no_way left) rest rest' h = h left
  renamed-after ran_out rest rest' h = refl

module _ {P Q : Program} (σ : Simulation (system P) (system Q)) where
  open P use {State, Move, done, moves, next}
  open σ use {Alike, rename, same_done, same_moves, same_failure, same_next}

  -- the runs from related states are the same, at this depth
  abbrev SameAt : ℕ → Type 0
  SameAt depth = (budget : ℕ) (s : State) (t : Q.State) → Alike s t → search Q depth budget t ≡ renamed_result rename (search P depth budget s)

  module _ (depth : ℕ) (below : SameAt depth) (s : State) (t : Q.State) (a : Alike s t) (e : done s ≡ false) where
    same-one : (budget : ℕ) (m : Move) → m ∈ moves s → (x : Option State) → next s m ≡ x
        → one Q depth budget t (rename m) ≡ renamed_result rename (one P depth budget s m)
    same-one budget m i none f =
        rw (one_fails P depth budget s m f) (one_fails Q depth budget t (rename m) (same_failure a e i f))
    same-one budget m i (some s') f =
        let x = same_next a e i f in
        rw (one_enters P depth budget s m s' f, one_enters Q depth budget t (rename m) x.0 x.1, below budget s' x.0 x.2)
        (renamed-put rename m (search P depth budget s'))

    same_row : (ms : List Move) → ((m : Move) → m ∈ ms → m ∈ moves s) → (budget : ℕ)
        → row Q depth budget t (map rename ms) ≡ renamed_result rename (row P depth budget s ms)
    same_row [] i budget = rw (row_end P depth budget s) (row_end Q depth budget t)
    same_row (m ∷ ms) i zero = rw (row_broke P depth s m ms) (row_broke Q depth t (rename m) (map rename ms))
    same_row (m ∷ ms) i (suc left) =
        row_step Q depth left t (rename m) (map rename ms)
        ∙ ap (λ (r : Result Q.Move). after r (λ l. row Q depth l t (map rename ms))) (same-one left m (i m first) (next s m) refl)
        ∙ renamed-after rename (one P depth left s m) _ _ (same_row ms (λ k j. i k (later j)))
        ∙ ap (renamed_result rename) (sym (row_step P depth left s m ms))

  same-visit : (depth : ℕ) → SameAt depth → (budget : ℕ) (s : State) (t : Q.State) → Alike s t → (x : Bool) → done s ≡ x
      → search Q (suc depth) budget t ≡ renamed_result rename (search P (suc depth) budget s)
  same-visit depth below budget s t a true e = rw (search_done P depth budget s e) (search_done Q depth budget t (same_done a ∙ e))
  same-visit depth below budget s t a false e =
      rw (search_open P depth budget s e, search_open Q depth budget t (same_done a ∙ e), same_moves a e)
      (same_row depth below s t a e (moves s) (λ m i. i) budget)

  pub same_run : (depth budget : ℕ) (s : State) (t : Q.State) → Alike s t
      → search Q depth budget t ≡ renamed_result rename (search P depth budget s)
  same_run zero budget s t a = rw (search_zero P budget s) (search_zero Q budget t)
  same_run (suc depth) budget s t a = same-visit depth (same_run depth) budget s t a (done s) refl
