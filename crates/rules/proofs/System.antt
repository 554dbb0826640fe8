-- Depth-first search is a fact about any bounded system: the theorems about System.Searched, System.Way and the machine of System.Run.
-- Two systems that behave alike are the matter of System.Simulation and System.Runs; the laws for a loop over the moves, of System.Steps.
use mathlib.Core.Path.{◌≡◌, refl, ap, sym, subst₂, ◌∙◌}
use mathlib.Core.Logic.{◌⊎◌, inl, inr, ◌≢◌}
use mathlib.Core.Option.{Option, none, some}
use mathlib.Core.List.{List}
use Prim.Native.Nat.{ℕ, ◌+◌, ◌-◌, ◌≤◌, ◌<◌}
use native.Mathlib.Omega.{arith}
use lib.ListN.{length}
use Rattle.rules.specs.System.{System, Ending, found, nothing, Searched}
use Rattle.rules.specs.Machinery.Run.{Program, system, way, no_way, ran_out, verdict, search}
use Clash.{clash}
use Ways.{Way, here, step, Before, Distinct, Determined, Bounded}
use Answers.{answer, answer-unique}
use Agree.{search_pays}
use Pay.{pay_within, pay_beyond, paid, unpaid, decided}
use Order.{First, searched_first, before_asym}
pub mod Clash
pub mod Ways
pub mod Steps
pub mod Induction
pub mod Pay
pub mod Agree
pub mod Answers
pub mod Order
pub mod Simulation
pub mod Runs

-- Of any system in which a try leads to one state alone.
module _ (S : System) (one : Determined S) where
  open S use {State, Move, moves}

  -- There are no two answers.
  pub one_answer : {s : State} {o o' : Ending Move} {n n' : ℕ} → Searched S s o n → Searched S s o' n' → (o ≡ o') × (n ≡ n')
  one_answer d d' = answer-unique S one d d'

  -- Nothing is found exactly where there is no way.
  pub none_no_way : {s : State} {n : ℕ} → Searched S s nothing n → (q : List Move) → ¬ Way S s q
  none_no_way d = searched_first S one d

  pub no_way_none : {s : State} (o : Ending Move) {n : ℕ} → Searched S s o n → ((q : List Move) → ¬ Way S s q) → o ≡ nothing
  no_way_none nothing d h = refl
  no_way_none (found p) d h = absurd (h p (searched_first S one d).0)

  -- What is found is a way, and every other way comes after it.
  pub found_way : {s : State} {p : List Move} {n : ℕ} → Searched S s (found p) n → Way S s p
  found_way d = (searched_first S one d).0

  pub found_first : {s : State} {p q : List Move} {n : ℕ} → Searched S s (found p) n → Way S s q → (q ≡ p) ⊎ Before S s p q
  found_first {q} d w = (searched_first S one d).1 q w

  -- Where no state has a move twice, that leaves no other way to come first.
  pub never_both_before : ((s : State) → Distinct (moves s)) → {s : State} {p q : List Move} → Before S s p q → ¬ Before S s q p
  never_both_before distinct b = before_asym S one distinct b

module _ (S : System) (B : Bounded S) where
  open S use {State, Move}
  open B use {Good, size, kept, falls}

  -- There is an answer.
  pub an_answer : {s : State} → Good s → (o : Ending Move) × (n : ℕ) × Searched S s o n
  an_answer {s} good = answer S B s good

  -- A way has at most as many moves as the state's size says.
  pub way_short : {s : State} {p : List Move} → Good s → Way S s p → length p ≤ size s
  way_short good (here e) = omega arith
  way_short good (step e i f w) = let h = way_short (kept good e i f) w in omega (arith, falls good e i f)

  -- There is a way, or there is none.
  pub way_or_none : Determined S → {s : State} → Good s → ((p : List Move) × Way S s p) ⊎ ((q : List Move) → ¬ Way S s q)
  way_or_none one {s} good = let a = an_answer good in go a.0 (searched_first S one a.2)
    where
      go : (o : Ending Move) → First S one s o → ((p : List Move) × Way S s p) ⊎ ((q : List Move) → ¬ Way S s q)
      go (found p) h = inl (p, h.0)
      go nothing h = inr h

-- What a program's tries come to is one state alone, or none.
module _ (P : Program) where
  open P use {State, Move, next}

  pub determined : Determined (system P)
  determined = record { one_next = λ f g. same f g; not_both = λ {s} {t} {m} f g. let z : none ≡ some t = sym g ∙ f in clash cc }
    where
      same : {s t u : State} {m : Move} → next s m ≡ some t → next s m ≡ some u → u ≡ t
      same f g = cc

  pub decides : (s : State) (m : Move) → ((t : State) × (next s m ≡ some t)) ⊎ (next s m ≡ none)
  decides s m = go (next s m) refl
    where
      go : (x : Option State) → next s m ≡ x → ((t : State) × (next s m ≡ some t)) ⊎ (next s m ≡ none)
      go none e = inr e
      go (some t) e = inl (t, e)

module _ (P : Program) (B : Bounded (system P)) where
  open P use {State, Move}
  open B use {Good, size}

  module _ {s : State} (good : Good s) {depth : ℕ} (deep : size s < depth) where
    -- With the tries needed, the machine gives the answer and the tries left over; with fewer it runs out.
    pub run_within : {o : Ending Move} {n : ℕ} → Searched (system P) s o n → (budget : ℕ) → n ≤ budget
        → search P depth budget s ≡ verdict o (budget - n)
    run_within {o} {n} d budget h = search_pays P B good d depth deep budget ∙ pay_within n budget (verdict o) h

    pub run_beyond : {o : Ending Move} {n : ℕ} → Searched (system P) s o n → (budget : ℕ) → budget < n → search P depth budget s ≡ ran_out
    run_beyond {o} {n} d budget h = search_pays P B good d depth deep budget ∙ pay_beyond n budget (verdict o) h

    -- And only so: the outcome that it gives is the answer's, the tries that it made are the tries needed,
    -- and it runs out only where those exceed the budget.
    pub run_tells : (budget : ℕ) (o : Ending Move) (left : ℕ) → search P depth budget s ≡ verdict o left
        → (left ≤ budget) × Searched (system P) s o (budget - left)
    run_tells budget o left e =
        let a = an_answer (system P) B good in
        let same = paid a.1 budget a.0 o left (sym (search_pays P B good a.2 depth deep budget) ∙ e) in
        let made : a.1 ≡ budget - left = omega (arith, same.1) in
        (omega (arith, same.1), subst₂ (λ (x : Ending Move) (n : ℕ). Searched (system P) s x n) same.0 made a.2)

    pub ran_out_tells : {o : Ending Move} {n : ℕ} → Searched (system P) s o n → (budget : ℕ) → search P depth budget s ≡ ran_out → budget < n
    ran_out_tells {o} {n} d budget e = unpaid n budget o (sym (search_pays P B good d depth deep budget) ∙ e)

    -- A larger budget gives the same outcome after the same tries.
    pub larger_budget : (budget : ℕ) (o : Ending Move) (left more : ℕ) → search P depth budget s ≡ verdict o left → budget ≤ more
        → search P depth more s ≡ verdict o (left + (more - budget))
    larger_budget budget o left more e h =
        let told = run_tells budget o left e in
        run_within told.1 more (omega arith) ∙ ap (verdict o) (omega (arith, told.0))

    -- The depth is never reached: any other over the size gives the same.
    pub any_depth : (other : ℕ) → size s < other → (budget : ℕ) → search P depth budget s ≡ search P other budget s
    any_depth other deep' budget =
        let a = an_answer (system P) B good in
        search_pays P B good a.2 depth deep budget ∙ sym (search_pays P B good a.2 other deep' budget)

    -- Where the machine did not run out: none exactly where there is no way; else a way, and every other comes after it.
    pub run_none : (budget left : ℕ) → search P depth budget s ≡ no_way left → (q : List Move) → ¬ Way (system P) s q
    run_none budget left e = none_no_way (system P) (determined P) (run_tells budget nothing left e).1

    pub run_found : (budget : ℕ) (p : List Move) (left : ℕ) → search P depth budget s ≡ way p left
        → Way (system P) s p × ((q : List Move) → Way (system P) s q → (q ≡ p) ⊎ Before (system P) s p q)
    run_found budget p left e = searched_first (system P) (determined P) (run_tells budget (found p) left e).1

    pub no_way_run : (budget : ℕ) → search P depth budget s ≢ ran_out → ((q : List Move) → ¬ Way (system P) s q)
        → (left : ℕ) × (search P depth budget s ≡ no_way left)
    no_way_run budget kept_on h = let x = decided _ kept_on in go x.0 x.1 x.2
      where
        go : (o : Ending Move) (left : ℕ) → search P depth budget s ≡ verdict o left
            → (left : ℕ) × (search P depth budget s ≡ no_way left)
        go (found p) left e = absurd (h p (run_found budget p left e).0)
        go nothing left e = (left, e)

    pub way_run : (budget : ℕ) → search P depth budget s ≢ ran_out → {q : List Move} → Way (system P) s q
        → (p : List Move) × (left : ℕ) × (search P depth budget s ≡ way p left)
    way_run budget kept_on {q} w = let x = decided _ kept_on in go x.0 x.1 x.2
      where
        go : (o : Ending Move) (left : ℕ) → search P depth budget s ≡ verdict o left
            → (p : List Move) × (left : ℕ) × (search P depth budget s ≡ way p left)
        go (found p) left e = (p, left, e)
        go nothing left e = absurd (run_none budget left e q w)
