-- A search that was made, and the ways there are: nothing found means that there is no way; a way found comes before every other.
use mathlib.Core.Path.{◌≡◌, refl, ap, subst}
use mathlib.Core.Logic.{◌⊎◌, inl, inr, ⊎_map}
use mathlib.Core.Bool.{true, false}
use mathlib.Core.List.{List, [], ◌∷◌}
use Prim.Native.Nat.{ℕ}
use Rattle.rules.specs.System.{System, Ending, found, nothing, ◌∈◌, first, later, Searched}
use Rattle.rules.proofs.System.Ways.{Earlier, heads, behind, Distinct, empty, fresh, Way, here, step, Before, differs, agrees, Determined}
use Rattle.rules.proofs.System.Clash.{clash}
use Rattle.rules.proofs.System.Induction.{Claim, claimed}

module _ (S : System) (one : Determined S) where
  open S use {State, Move, done, moves, leads, fails}

  -- A way that begins with one of these moves, and the order of two lists of moves where the first move is one of these.
  data RowWay (s : State) (ms : List Move) : List Move → Type 0 where
    by : {t : State} {m : Move} {p : List Move} → m ∈ ms → leads s m t → Way S t p → RowWay s ms (m ∷ p)

  data RowBefore (s : State) (ms : List Move) : List Move → List Move → Type 0 where
    row_differs : {m n : Move} {p q : List Move} → Earlier m n ms → RowBefore s ms (m ∷ p) (n ∷ q)
    row_agrees : {t : State} {m : Move} {p q : List Move} → leads s m t → Before S t p q → RowBefore s ms (m ∷ p) (m ∷ q)

  abbrev pub First : State → Ending Move → Type 0
  First s nothing = (q : List Move) → ¬ Way S s q
  First s (found p) = Way S s p × ((q : List Move) → Way S s q → (q ≡ p) ⊎ Before S s p q)

  abbrev FirstOf : State → List Move → Ending Move → Type 0
  FirstOf s ms nothing = (q : List Move) → ¬ RowWay s ms q
  FirstOf s ms (found p) = RowWay s ms p × ((q : List Move) → RowWay s ms q → (q ≡ p) ⊎ RowBefore s ms p q)

  open_or_done : {A : Type 0} (s : State) → done s ≡ true → done s ≡ false → A
  open_or_done s e e' = clash cc

  to_way : {s : State} {p : List Move} → done s ≡ false → RowWay s (moves s) p → Way S s p
  to_way e (by i f w) = step e i f w

  to_row : {s : State} {p : List Move} → done s ≡ false → Way S s p → RowWay s (moves s) p
  to_row {s} e (here e') = open_or_done s e' e
  to_row e (step e' i f w) = by i f w

  to_before : {s : State} {p q : List Move} → RowBefore s (moves s) p q → Before S s p q
  to_before (row_differs x) = differs x
  to_before (row_agrees f b) = agrees f b

  later_way : {s : State} {m : Move} {ms p : List Move} → RowWay s ms p → RowWay s (m ∷ ms) p
  later_way (by i f w) = by (later i) f w

  later_before : {s : State} {m : Move} {ms p q : List Move} → RowBefore s ms p q → RowBefore s (m ∷ ms) p q
  later_before (row_differs x) = row_differs (behind x)
  later_before (row_agrees f b) = row_agrees f b

  -- a move from which there is no way makes no difference
  abbrev Dead : State → Move → Type 0
  Dead s m = (t : State) → leads s m t → (q : List Move) → ¬ Way S t q

  earlier_way : {s : State} {m : Move} {ms p : List Move} → Dead s m → RowWay s (m ∷ ms) p → RowWay s ms p
  earlier_way dead (by first f w) = absurd (dead _ f _ w)
  earlier_way dead (by (later i) f w) = by i f w

  passed : {s : State} {m : Move} (ms : List Move) (o : Ending Move) → Dead s m → FirstOf s ms o → FirstOf s (m ∷ ms) o
  passed ms nothing dead h = λ q w. h q (earlier_way dead w)
  passed ms (found p) dead h = (later_way h.0, λ q w. ⊎_map (λ e. e) later_before (h.1 q (earlier_way dead w)))

  fails_dead : {s : State} {m : Move} → fails s m → Dead s m
  fails_dead f t g q w = absurd (one.not_both g f)

  in_vain_dead : {s t : State} {m : Move} → leads s m t → First t nothing → Dead s m
  in_vain_dead {t} f h u g q w = h q (subst (λ (x : State). Way S x q) (one.one_next f g) w)

  compared : {s t : State} {m : Move} {ms p q : List Move} → leads s m t
      → ((q : List Move) → Way S t q → (q ≡ p) ⊎ Before S t p q)
      → RowWay s (m ∷ ms) q → (q ≡ m ∷ p) ⊎ RowBefore s (m ∷ ms) (m ∷ p) q
  compared {t} {m} f h (by {t = u} {p = q} first g w) =
      ⊎_map (ap (m ∷◌)) (row_agrees f) (h q (subst (λ (x : State). Way S x q) (one.one_next f g) w))
  compared f h (by (later i) g w) = inr (row_differs (heads i))

  looked_first : {s : State} (o : Ending Move) → done s ≡ false → FirstOf s (moves s) o → First s o
  looked_first nothing e h = λ q w. h q (to_row e w)
  looked_first (found p) e h = (to_way e h.0, λ q w. ⊎_map (λ x. x) to_before (h.1 q (to_row e w)))

  only_way : {s : State} {q : List Move} → done s ≡ true → Way S s q → (q ≡ []) ⊎ Before S s [] q
  only_way e (here e') = inl refl
  only_way {s} e (step e' i f w) = open_or_done s e e'

  firsts : Claim S
  firsts =
      record {
        Of = λ s o n. First s o;
        OfRow = λ s ms o n. FirstOf s ms o;
        if_arrived = λ e. (here e, λ q w. only_way e w);
        if_looked = λ {s} {o} e h. looked_first o e h;
        if_none_left = λ q w. no_moves w;
        if_fails = λ {s} {m} {ms} {o} f h. passed ms o (fails_dead f) h;
        if_finds = λ {s} {t} f h. (by first f h.0, λ q w. compared f h.1 w);
        if_in_vain = λ {s} {t} {m} {ms} {o} f h g. passed ms o (in_vain_dead f h) g;
      }
    where
      no_moves : {s : State} {q : List Move} → ¬ RowWay s [] q
      no_moves (by i f w) = elim i [ ]

  pub searched_first : {s : State} {o : Ending Move} {n : ℕ} → Searched S s o n → First s o
  unfolding firsts
  searched_first d = claimed S firsts d

module _ {A : Type 0} where
  earlier-in : {m n : A} {ms : List A} → Earlier m n ms → n ∈ ms
  earlier-in (heads i) = later i
  earlier-in (behind x) = later (earlier-in x)

  pub earlier_asym : {m n : A} {ms : List A} → Distinct ms → Earlier m n ms → ¬ Earlier n m ms
  earlier_asym empty x y = elim x [ ]
  earlier_asym (fresh h d) (heads i) (heads j) = h i
  earlier_asym (fresh h d) (heads i) (behind y) = h (earlier-in y)
  earlier_asym (fresh h d) (behind x) (heads j) = h (earlier-in x)
  earlier_asym (fresh h d) (behind x) (behind y) = earlier_asym d x y

module _ (S : System) (one : Determined S) (distinct : (s : S.State) → Distinct (S.moves s)) where
  open S use {State, Move}

  not_both : {s : State} {p q p' q' : List Move} → Before S s p q → Before S s q' p' → p ≡ p' → q ≡ q' → ⊥
  not_both {s} (differs {m = m} {n = n} x) (differs {m = k} {n = l} y) e d =
      let a : m ≡ l = cc in
      let b : n ≡ k = cc in
      let y' : Earlier n m (S.moves s) = rw (a, b) y in earlier_asym (distinct s) x y'
  not_both {s} (differs {m = m} {n = n} x) (agrees f b) e d =
      let a : n ≡ m = cc in
      let x' : Earlier m m (S.moves s) = rw a at x in earlier_asym (distinct s) x' x'
  not_both {s} (agrees f b) (differs {m = k} {n = l} y) e d =
      let a : l ≡ k = cc in
      let y' : Earlier k k (S.moves s) = rw a at y in earlier_asym (distinct s) y' y'
  not_both {s} (agrees {t = t} {m = m} f b) (agrees {t = u} {m = k} {p = p'} {q = q'} f' b') e d =
      let a : k ≡ m = cc in
      let g : S.leads s m u = rw a at f' in
      not_both b (subst (λ (x : State). Before S x p' q') (one.one_next f g) b') (cc) (cc)

  pub before_asym : {s : State} {p q : List Move} → Before S s p q → ¬ Before S s q p
  before_asym b c = not_both b c refl refl
