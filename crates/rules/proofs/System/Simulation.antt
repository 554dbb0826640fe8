-- One system inside another, and two systems that behave alike: ways are carried over, and answers are the same, with no new induction.
use mathlib.Core.Path.{◌≡◌, refl, ap, ap₂, sym, subst, ◌∙◌}
use mathlib.Core.Bool.{false}
use mathlib.Core.Logic.{◌⊎◌, inl, inr}
use mathlib.Core.List.{List, [], ◌∷◌, map}
use Prim.Native.Nat.{ℕ}
use Rattle.rules.specs.System.{System, Ending, found, nothing, ◌∈◌, first, later, Searched, Tried, arrived, looked, none_left, failed, finds, in_vain_is}
use Rattle.rules.specs.Machinery.Run.{Result, way, no_way, ran_out}
use Rattle.rules.proofs.System.Answers.{answer, answer-unique}
use Rattle.rules.proofs.System.Ways.{Way, here, step, Determined, Bounded}
use Rattle.rules.proofs.System.Induction.{Claim, claimed}

-- A system inside another: related states are done together, and what moves can do in the first they can do in the second, under a renaming.
pub record Embedding (S T : System) : Type 1 where
  pub Alike : S.State → T.State → Type 0
  pub rename : S.Move → T.Move
  pub same_done : {s : S.State} {t : T.State} → Alike s t → T.done t ≡ S.done s
  pub has_move : {s : S.State} {t : T.State} {m : S.Move} → Alike s t → S.done s ≡ false → m ∈ S.moves s → rename m ∈ T.moves t
  pub same_next : {s s' : S.State} {t : T.State} {m : S.Move} → Alike s t → S.done s ≡ false → m ∈ S.moves s
      → S.leads s m s' → (t' : T.State) × T.leads t (rename m) t' × Alike s' t'

-- Systems that behave alike: related states are done together, have the same moves under a renaming, and lead to related states or fail together.
pub record Simulation (S T : System) : Type 1 where
  pub Alike : S.State → T.State → Type 0
  pub rename : S.Move → T.Move
  pub same_done : {s : S.State} {t : T.State} → Alike s t → T.done t ≡ S.done s
  pub same_moves : {s : S.State} {t : T.State} → Alike s t → S.done s ≡ false → T.moves t ≡ map rename (S.moves s)
  pub same_failure : {s : S.State} {t : T.State} {m : S.Move} → Alike s t → S.done s ≡ false → m ∈ S.moves s
      → S.fails s m → T.fails t (rename m)
  pub same_next : {s s' : S.State} {t : T.State} {m : S.Move} → Alike s t → S.done s ≡ false → m ∈ S.moves s
      → S.leads s m s' → (t' : T.State) × T.leads t (rename m) t' × Alike s' t'

-- an outcome and a result under a renaming of moves
module _ {M N : Type 0} (f : M → N) where
  abbrev pub renamed : Ending M → Ending N
  renamed nothing = nothing
  renamed (found p) = found (map f p)

  abbrev pub renamed_result : Result M → Result N
  renamed_result (way p left) = way (map f p) left
  renamed_result (no_way left) = no_way left
  renamed_result ran_out = ran_out

  map-in : {m : M} {ms : List M} → m ∈ ms → f m ∈ map f ms
  map-in first = first
  map-in (later i) = later (map-in i)

  in_map : {n : N} (ms : List M) → n ∈ map f ms → (m : M) × (m ∈ ms) × (f m ≡ n)
  in_map [] i = elim i [ ]
  in_map {n} (m ∷ ms) i = at i refl (λ d j. in_map ms (subst (λ (ks : List N). n ∈ ks) d j)) refl
    where
      at : {k : N} {ks : List N} → n ∈ (k ∷ ks) → k ≡ f m → (ks ≡ map f ms → n ∈ ks → (x : M) × (x ∈ ms) × (f x ≡ n)) → ks ≡ map f ms
          → (x : M) × (x ∈ (m ∷ ms)) × (f x ≡ n)
      at first e rest d = (m, first, sym e)
      at (later j) e rest d = let x = rest d j in (x.0, later x.1, x.2)

-- a renaming that changes nothing
module _ {M : Type 0} (f : M → M) (same : (m : M) → f m ≡ m) where
  pub map_same : (p : List M) → map f p ≡ p
  map_same [] = refl
  map_same (m ∷ p) = ap₂ ◌∷◌ (same m) (map_same p)

  pub renamed_same : (o : Ending M) → renamed f o ≡ o
  renamed_same nothing = refl
  renamed_same (found p) = ap found (map_same p)

  pub renamed_result_same : (r : Result M) → renamed_result f r ≡ r
  renamed_result_same (way p left) = ap (λ (q : List M). way q left) (map_same p)
  renamed_result_same (no_way left) = refl
  renamed_result_same ran_out = refl

module _ {S T : System} (ε : Embedding S T) where
  open ε use {Alike, rename, same_done, has_move, same_next}

  pub carried_over : {s : S.State} {t : T.State} {p : List S.Move} → Alike s t → Way S s p → Way T t (map rename p)
  carried_over a (here e) = here (same_done a ∙ e)
  carried_over a (step e i f w) =
      let x = same_next a e i f in
      step (same_done a ∙ e) (has_move a e i) x.1 (carried_over x.2 w)

module _ {S T : System} (σ : Simulation S T) where
  open S use {State, Move, done, moves, leads, fails}
  open σ use {Alike, rename, same_done, same_moves, same_failure, same_next}

  alike : Claim S
  alike =
      record {
        Of = λ s o n. (t : T.State) → Alike s t → Searched T t (renamed rename o) n;
        OfRow = λ s ms o n. (t : T.State) → Alike s t → done s ≡ false → ((m : Move) → m ∈ ms → m ∈ moves s)
            → Tried T t (map rename ms) (renamed rename o) n;
        if_arrived = λ e t a. arrived (same_done a ∙ e);
        if_looked = λ {s} {o} {n} e h t a. looked {o = renamed rename o} {n = n} (same_done a ∙ e) (rw (same_moves a e) (h t a e (λ m i. i)));
        if_none_left = λ t a e i. none_left;
        if_fails = λ {s} {m} f h t a e i. failed (same_failure a e (i m first) f) (h t a e (λ k j. i k (later j)));
        if_finds = λ {s} {t} {m} f h t' a e i. let x = same_next a e (i m first) f in finds x.1 (h x.0 x.2);
        if_in_vain = λ {s} {t} {m} f h g t' a e i.
            let x = same_next a e (i m first) f in
            in_vain_is x.1 (h x.0 x.2) (g t' a e (λ k j. i k (later j)));
      }

  pub same_answer : {s : State} {t : T.State} {o : Ending Move} {n : ℕ} → Alike s t → Searched S s o n → Searched T t (renamed rename o) n
  unfolding alike
  same_answer {t} a d = claimed S alike d t a

  pub same_answer_back : (B : Bounded S) (one : Determined T) {s : State} {t : T.State} {x : Ending T.Move} {n : ℕ}
      → B.Good s → Alike s t → Searched T t x n → (o : Ending Move) × Searched S s o n × (renamed rename o ≡ x)
  same_answer_back B one {s} good a d =
      let mine = answer S B s good in
      let same = answer-unique T one (same_answer a mine.2) d in
      (mine.0, subst (λ (k : ℕ). Searched S s mine.0 k) same.1 mine.2, same.0)

  pub embedding : Embedding S T
  embedding =
      record {
        Alike = Alike;
        rename = rename;
        same_done = same_done;
        has_move = λ {s} {t} {m} a e i. rw (same_moves a e) (map-in rename i);
        same_next = same_next;
      }

  pub same_way : {s : State} {t : T.State} {p : List Move} → Alike s t → Way S s p → Way T t (map rename p)
  unfolding embedding
  same_way a w = carried_over embedding a w

  -- a next state of the second system comes from one of the first
  module _ (one : Determined T) (decided : (s : State) (m : Move) → ((s' : State) × leads s m s') ⊎ fails s m) where
    next_back : {s : State} {t t' : T.State} {m : Move} → Alike s t → done s ≡ false → m ∈ moves s → T.leads t (rename m) t'
        → ((s' : State) × leads s m s') ⊎ fails s m → (s' : State) × leads s m s' × Alike s' t'
    next_back a e i g (inr f) = absurd (one.not_both g (same_failure a e i f))
    next_back a e i g (inl f) =
        let x = same_next a e i f.1 in
        (f.0, f.1, subst (λ (u : T.State). Alike f.0 u) (one.one_next g x.1) x.2)

    pub same_way_back : {t : T.State} {q : List T.Move} → Way T t q → (s : State) → Alike s t
        → (p : List Move) × Way S s p × (map rename p ≡ q)
    same_way_back (here e) s a = ([], here (sym (same_done a) ∙ e), refl)
    same_way_back (step {m = n} {p = q} e i g w) s a =
        let e' : done s ≡ false = sym (same_done a) ∙ e in
        let m = in_map rename (moves s) (rw (same_moves a e') at i) in
        let x = next_back a e' m.1 (rw (sym m.2) at g) (decided s m.0) in
        let below = same_way_back w x.0 x.2 in
        let head : rename m.0 ≡ n = m.2 in
        let tail : map rename below.0 ≡ q = below.2 in
        (m.0 ∷ below.0, step e' m.1 x.1 below.1, cc)
