-- From every good state of a bounded system there is an answer, and one alone.
use mathlib.Core.Path.{◌≡◌, refl, ap, ap₂, subst}
use mathlib.Core.Bool.{Bool, true, false}
use mathlib.Core.Logic.{◌⊎◌, inl, inr}
use mathlib.Core.List.{List, [], ◌∷◌}
use Prim.Native.Nat.{ℕ, zero, suc, ◌+◌, ◌<◌}
use native.Mathlib.Nat.{not-suc-le-zero}
use native.Mathlib.Omega.{arith}
use Rattle.rules.specs.System.{System, Ending, found, nothing, ◌∈◌, first, later, Searched, Tried, arrived, looked, none_left, failed, finds, in_vain_is}
use Rattle.rules.proofs.System.Ways.{Determined, Bounded}
use Rattle.rules.proofs.System.Induction.{Claim, claimed}

module _ (S : System) where
  open S use {State, Move, done, moves, leads, fails}

  abbrev pub Answer : State → Type 0
  Answer s = (o : Ending Move) × (n : ℕ) × Searched S s o n

  abbrev pub RowAnswer : State → List Move → Type 0
  RowAnswer s ms = (o : Ending Move) × (n : ℕ) × Tried S s ms o n

  entered : {s t : State} {m : Move} {ms : List Move} (o : Ending Move) (n : ℕ)
      → leads s m t → Searched S t o n → RowAnswer s ms → RowAnswer s (m ∷ ms)
  entered {m} (found p) n f d rest = (found (m ∷ p), suc n, finds f d)
  entered nothing n f d rest = (rest.0, suc (n + rest.1), in_vain_is f d rest.2)

  tried : {s : State} {m : Move} {ms : List Move} → ((t : State) × leads s m t) ⊎ fails s m
      → ((t : State) → leads s m t → Answer t) → RowAnswer s ms → RowAnswer s (m ∷ ms)
  tried (inr f) below rest = (rest.0, suc rest.1, failed f rest.2)
  tried (inl g) below rest = let a = below g.0 g.1 in entered a.0 a.1 g.1 a.2 rest

  row-answer : (s : State) (ms : List Move) → ((m : Move) → ((t : State) × leads s m t) ⊎ fails s m)
      → ((m : Move) → m ∈ ms → (t : State) → leads s m t → Answer t) → RowAnswer s ms
  row-answer s [] decided below = (nothing, 0, none_left)
  row-answer s (m ∷ ms) decided below = tried (decided m) (below m first) (row-answer s ms decided (λ k i. below k (later i)))

module _ (S : System) (B : Bounded S) where
  open S use {State, Move, done, moves, leads, fails}
  open B use {Good, size, decides, kept, falls}

  visited : {s : State} (x : Bool) → done s ≡ x → (done s ≡ false → RowAnswer S s (moves s)) → Answer S s
  visited true e rows = (found [], 0, arrived e)
  visited false e rows = let r = rows e in (r.0, r.1, looked e r.2)

  answer_within : (depth : ℕ) (s : State) → Good s → size s < depth → Answer S s
  answer_within zero s good deep = absurd (not-suc-le-zero deep)
  answer_within (suc depth) s good deep =
      visited (done s) refl λ e.
      row-answer S s (moves s) (decides good) λ m i t f.
      answer_within depth t (kept good e i f) (omega (arith, falls good e i f))

  pub answer : (s : State) → Good s → Answer S s
  answer s good = answer_within (suc (size s)) s good (omega arith)

module _ (S : System) (one : Determined S) where
  open S use {State, Move, done, moves, leads, fails}

  abbrev Same : Ending Move → ℕ → Ending Move → ℕ → Type 0
  Same o n x k = (o ≡ x) × (n ≡ k)

  abbrev Only : State → Ending Move → ℕ → Type 0
  Only s o n = (x : Ending Move) (k : ℕ) → Searched S s x k → Same o n x k

  abbrev OnlyRow : State → List Move → Ending Move → ℕ → Type 0
  OnlyRow s ms o n = (x : Ending Move) (k : ℕ) → Tried S s ms x k → Same o n x k

  only-arrived : {s : State} → done s ≡ true → Only s (found []) 0
  only-arrived e x k (arrived e') = (refl, refl)
  only-arrived e x k (looked e' d') = (cc, cc)

  only-looked : {s : State} {o : Ending Move} {n : ℕ} → done s ≡ false → OnlyRow s (moves s) o n → Only s o n
  only-looked e h x k (arrived e') = (cc, cc)
  only-looked e h x k (looked e' d') = h x k d'

  only-none-left : {s : State} → OnlyRow s [] nothing 0
  only-none-left x k none_left = (refl, refl)

  only-fails : {s : State} {m : Move} {ms : List Move} {o : Ending Move} {n : ℕ}
      → fails s m → OnlyRow s ms o n → OnlyRow s (m ∷ ms) o (suc n)
  only-fails f h x k (failed f' d') = let same = h _ _ d' in (same.0, ap suc same.1)
  only-fails f h x k (finds f' d') = absurd (one.not_both f' f)
  only-fails f h x k (in_vain_is f' d' r') = absurd (one.not_both f' f)

  -- the next state is one alone
  moved : {s t u : State} {m : Move} {x : Ending Move} {k : ℕ}
      → leads s m t → leads s m u → Searched S u x k → Searched S t x k
  moved {t} {u} {x} {k} f f' d = subst (λ (y : State). Searched S y x k) (one.one_next f f') d

  only-finds : {s t : State} {m : Move} {ms p : List Move} {n : ℕ}
      → leads s m t → Only t (found p) n → OnlyRow s (m ∷ ms) (found (m ∷ p)) (suc n)
  only-finds f h x k (failed f' d') = absurd (one.not_both f f')
  only-finds {p} f h x k (finds {p = p'} f' d') =
      let same = h _ _ (moved f f' d') in
      let e : found p ≡ found p' = same.0 in
      (cc, ap suc same.1)
  only-finds {p} f h x k (in_vain_is f' d' r') = let e : found p ≡ nothing = (h _ _ (moved f f' d')).0 in (cc, cc)

  only-in-vain : {s t : State} {m : Move} {ms : List Move} {o : Ending Move} {n j : ℕ}
      → leads s m t → Only t nothing n → OnlyRow s ms o j → OnlyRow s (m ∷ ms) o (suc (n + j))
  only-in-vain f h g x k (failed f' d') = absurd (one.not_both f f')
  only-in-vain f h g x k (finds {p = p'} f' d') = let e : nothing ≡ found p' = (h _ _ (moved f f' d')).0 in (cc, cc)
  only-in-vain f h g x k (in_vain_is f' d' r') =
      let below = h _ _ (moved f f' d') in
      let rest = g _ _ r' in
      (rest.0, ap suc (ap₂ ◌+◌ below.1 rest.1))

  only : Claim S
  only =
      record {
        Of = Only;
        OfRow = OnlyRow;
        if_arrived = only-arrived;
        if_looked = only-looked;
        if_none_left = only-none-left;
        if_fails = only-fails;
        if_finds = only-finds;
        if_in_vain = only-in-vain;
      }

  pub answer-unique : {s : State} {o x : Ending Move} {n k : ℕ} → Searched S s o n → Searched S s x k → (o ≡ x) × (n ≡ k)
  unfolding only
  answer-unique {x} {k} d d' = claimed S only d x k d'
