-- From clauses that no valuation makes true together to a closed tree that hangs them: where a leaf is impossible beside a branch and clauses that
-- are possible, some literal of the branch or of a clause is its opposite, and the clause is not needed below it.
use borrow.Author.Tests.{eqb-true}
use lib.Dec.{eqb}
use lib.ListN.{length, length-map, get_elem?}
use mathlib.Core.Bool.{Bool, true, false, cond}
use mathlib.Core.List.{List, [], ◌∷◌, ◌++◌, append-nil}
use mathlib.Core.Logic.{◌⊎◌, inl, inr, ◌≢◌}
use mathlib.Core.Option.{some}
use mathlib.Core.Path.{◌≡◌, refl, sym, ◌∙◌, ap, subst}
use native.Mathlib.Decide.{ℕ_discrete, dec_lt}
use native.Mathlib.Nat.{add-zero, suc-mul, mul-le-mul_left, mul-le-mul_right}
use native.Mathlib.Omega.{arith}
use Prim.Native.Nat.{ℕ, zero, suc, pred, ◌+◌, ◌*◌, ◌≤◌, ◌<◌}
use Rattle.table.specs.Limits.{Each}
use Rattle.table.specs.Syntax.{Literal, literal_under, Clause, Table, all_clauses}
use Rattle.rules.specs.Substitution.{Variable}
use Rattle.rules.specs.Setting.{every_leaf}
use Rattle.rules.specs.Tableau.{Leaf, hang, ancestor, others}
use Rattle.rules.specs.Evidence.{Valuation, literal_true, clause_true, leaf_needs, turned}
use Rattle.rules.proofs.Instances.{Instance, instance, opposite}
use Rattle.rules.proofs.Lists.{length_others, some_last}
use Rattle.rules.proofs.Trees.{Tree, bare, reduction, extension, size, asked}
use Rattle.rules.proofs.Valuations.{each_more, Taken, here, beyond, taken_length, taken_left, taken_back, or_right, place?, AllTrue, Possible, added, possible?}

variable? : (x y : Variable) → Dec (x ≡ y)
variable? x y = go (ℕ_discrete x.copy y.copy) (ℕ_discrete x.number y.number)
  where
    go : Dec (x.copy ≡ y.copy) → Dec (x.number ≡ y.number) → Dec (x ≡ y)
    go (yes c) (yes n) = yes (λ i. record { copy = c i; number = n i })
    go (yes c) (no f) = no (λ e. f (ap (λ (z : Variable). z.number) e))
    go (no f) n = no (λ e. f (ap (λ (z : Variable). z.copy) e))

-- a literal that is true makes its clause true
members_true : (ls : List (Literal Variable)) → Each (λ k. (v : Valuation Variable) → literal_true v k ≡ true → clause_true v ls ≡ true) ls
unfolding Each clause_true
members_true [] = tt
members_true (l ∷ ls) = (λ v e. rw e, each_more (λ k f v e. or_right (literal_true v l) (f v e)) ls (members_true ls))

others_each : (P : Literal Variable → Type 0) (ls : List (Literal Variable)) (j : ℕ) → Each P ls → Each P (others j ls)
unfolding Each others
others_each P [] zero h = tt
others_each P [] (suc j) h = tt
others_each P (l ∷ ls) zero h = h.1
others_each P (l ∷ ls) (suc j) h = (h.0, others_each P ls j h.1)

-- more instances need no less
needs_more : (w n : ℕ) → leaf_needs w n ≤ leaf_needs w (suc n)
unfolding leaf_needs
needs_more w zero = omega arith
needs_more w (suc n) = let h = mul-le-mul_left w (needs_more w n) in omega arith

needs_up : (w m n : ℕ) → m ≤ n → leaf_needs w m ≤ leaf_needs w n
needs_up w m zero h = let e : m ≡ zero = omega arith in rw e (omega arith)
needs_up w m (suc n) h = go (dec_lt n m) (λ k. needs_up w m n k)
  where
    go : Dec (n < m) → (m ≤ n → leaf_needs w m ≤ leaf_needs w n) → leaf_needs w m ≤ leaf_needs w (suc n)
    go (yes k) up = let e : m ≡ suc n = omega arith in rw e (omega arith)
    go (no k) up = let a = up (omega arith) in let b = needs_more w n in omega arith

module _ (t : Table) (Asked : Instance → Type 0) (w : ℕ) where
  -- an instance of a clause of the table, with at most so many other literals; one of the question is one of those asked
  pub record Piece : Type 0 where
    pub number : ℕ
    pub clause : Clause
    pub by : Instance
    pub there : get_elem? (all_clauses t) number ≡ some clause
    pub narrow : length clause.literals ≤ suc w
    pub question : number ≡ length t.clauses → Asked by

  abbrev pub literals : Piece → List (Literal Variable)
  literals p = instance p.by p.clause

  abbrev pub Beside : List Piece → List (Literal Variable) → Type 0
  Beside R B = Possible literals R B

  -- a closed tree below these leaves with at most so many extensions, whose instances of the question are among those asked
  pub record Grown (ls : List Leaf) (n : ℕ) : Type 0 where
    pub tree : Tree every_leaf t ls
    pub few : size tree ≤ n
    pub only : Each Asked (asked tree)

  more : {ls : List Leaf} {m n : ℕ} → m ≤ n → Grown ls m → Grown ls n
  more h g = let k = g.few in record { tree = g.tree; few = omega arith; only = g.only }

  abbrev leaf_of : Literal Variable → List (Literal Variable) → Leaf
  leaf_of m B = record { literal = m; branch = B }

  -- a leaf that is impossible beside its branch and so many pieces, which are possible, closes
  abbrev Closes : ℕ → Type 0
  Closes n =
      (R : List Piece) (B : List (Literal Variable)) (m : Literal Variable) → length R ≡ n → Beside R B → ¬ Beside R (m ∷ B)
      → (rest : List Leaf) (k : ℕ) → Grown rest k → Grown (leaf_of m B ∷ rest) (leaf_needs w n + k)

  all_close : {n : ℕ} → Closes n → (R : List Piece) (B : List (Literal Variable)) → length R ≡ n → Beside R B
      → (ks : List (Literal Variable)) → Each (λ k. ¬ Beside R (k ∷ B)) ks → (rest : List Leaf) (k : ℕ) → Grown rest k
      → Grown (hang B ks ++ rest) (length ks * leaf_needs w n + k)
  unfolding Each hang
  all_close closes R B e p [] h rest k g = more (omega arith) g
  all_close {n} closes R B e p (l ∷ ls) h rest k g =
      let a = suc-mul (length ls) (leaf_needs w n) in
      more (omega arith) (closes R B l e p h.0 (hang B ls ++ rest) _ (all_close closes R B e p ls h.1 rest k g))

  by_reduction : (B : List (Literal Variable)) (m : Literal Variable) (j : ℕ) → get_elem? B j ≡ some (turned m) → {rest : List Leaf} {k : ℕ}
      → Grown rest k → Grown (leaf_of m B ∷ rest) k
  unfolding size asked ancestor turned opposite
  by_reduction B m j e g = record { tree = reduction (suc j) e g.tree; few = g.few; only = g.only }

  only_asked : (p : Piece) (θs : List Instance) (b : Bool) → eqb p.number (length t.clauses) ≡ b → Each Asked θs
      → Each Asked (cond b (p.by ∷ θs) θs)
  unfolding Each
  only_asked p θs true e h = (p.question (eqb-true _ _ e), h)
  only_asked p θs false e h = h

  by_extension : (B : List (Literal Variable)) (m : Literal Variable) (p : Piece) (j : ℕ) → get_elem? (literals p) j ≡ some (turned m)
      → {rest : List Leaf} {k : ℕ} → Grown (hang (m ∷ B) (others j (literals p)) ++ rest) k → Grown (leaf_of m B ∷ rest) (suc k)
  unfolding size asked turned opposite
  by_extension B m p j e g =
      record {
        tree = extension p.number j p.by refl p.there e refl g.tree;
        few = let h = g.few in omega arith;
        only = only_asked p (asked g.tree) _ refl g.only;
      }

  others_few : (p : Piece) (j : ℕ) {m : Literal Variable} → get_elem? (literals p) j ≡ some m → length (others j (literals p)) ≤ w
  unfolding others instance
  others_few p j e =
      let a = length_others (literals p) j e in
      let b = length-map p.clause.literals (literal_under p.by) in
      let c = p.narrow in
      omega arith

  -- a piece that holds the literal, and the other pieces
  record Holding (m : Literal Variable) (R : List Piece) : Type 0 where
    piece : Piece
    left : List Piece
    taken : Taken piece R left
    place : ℕ
    there : get_elem? (literals piece) place ≡ some m

  abbrev NoneHolds : Literal Variable → List Piece → Type 0
  NoneHolds m R = Each (λ p. Each (λ l. l ≢ m) (literals p)) R

  holding? : (m : Literal Variable) (R : List Piece) → Holding m R ⊎ NoneHolds m R
  unfolding Each
  holding? m [] = inr tt
  holding? m (p ∷ R) = go (place? variable? m (literals p)) (holding? m R)
    where
      go : ((j : ℕ) × (get_elem? (literals p) j ≡ some m)) ⊎ Each (λ l. l ≢ m) (literals p) → Holding m R ⊎ NoneHolds m R
          → Holding m (p ∷ R) ⊎ NoneHolds m (p ∷ R)
      go (inl j) r = inl (record { piece = p; left = R; taken = here; place = j.0; there = j.1 })
      go (inr n) (inl h) =
          inl (record { piece = h.piece; left = p ∷ h.left; taken = beyond h.taken; place = h.place; there = h.there })
      go (inr n) (inr h) = inr (n, h)

  module _ (R : List Piece) (B : List (Literal Variable)) (m : Literal Variable) (p : Beside R B) (f : ¬ Beside R (m ∷ B)) (rest : List Leaf) (k : ℕ) (g : Grown rest k) where
    -- without the piece that is entered, the leaf is possible or the piece is not needed
    below : {n : ℕ} → Closes n → (h : Holding (turned m) R) → length h.left ≡ n → Dec (Beside h.left (m ∷ B))
        → Grown (leaf_of m B ∷ rest) (leaf_needs w (suc n) + k)
    unfolding Each leaf_needs
    below {n} closes h e (no q) =
        let less = needs_more w n in
        more (omega arith) (closes h.left B m e (p.0, taken_left (λ a. clause_true p.0 (literals a) ≡ true) h.taken p.1, p.2) q rest k g)
    below {n} closes h e (yes q) =
        let none : Each (λ k. ¬ Beside h.left (k ∷ m ∷ B)) (literals h.piece) =
        each_more (λ k makes r. f (r.0, taken_back (λ a. clause_true r.0 (literals a) ≡ true) h.taken (makes r.0 r.2.0) r.1, r.2.1))
        (literals h.piece) (members_true (literals h.piece)) in
        let fewer = mul-le-mul_right (leaf_needs w n) (others_few h.piece h.place h.there) in
        more (omega arith)
        (by_extension B m h.piece h.place h.there
        (all_close closes h.left (m ∷ B) e q (others h.place (literals h.piece)) (others_each _ (literals h.piece) h.place none) rest k g))

    closed_leaf : ((i : ℕ) → suc i ≡ length R → Closes i) → ((j : ℕ) × (get_elem? B j ≡ some (turned m))) ⊎ Each (λ l. l ≢ turned m) B
        → Holding (turned m) R ⊎ NoneHolds (turned m) R → Grown (leaf_of m B ∷ rest) (leaf_needs w (length R) + k)
    closed_leaf closes (inl j) h = more (omega arith) (by_reduction B m j.0 j.1 g)
    closed_leaf closes (inr b) (inr r) = absurd (f (added variable? literals R B m p r b))
    closed_leaf closes (inr b) (inl h) =
        let all = taken_length h.taken in
        rw all (below (closes (length h.left) (sym all)) h refl (possible? variable? literals h.left (m ∷ B)))

  one_closes : (n : ℕ) → ((k : ℕ) → suc k ≡ n → Closes k) → Closes n
  one_closes n closes R B m e p f rest k g =
      rw (← e) (closed_leaf R B m p f rest k g (λ i h. closes i (h ∙ e)) (place? variable? (turned m) B) (holding? (turned m) R))

  leaf_closes : (n : ℕ) → Closes n
  leaf_closes zero = one_closes zero (λ k e. absurd (omega arith))
  leaf_closes (suc n) = one_closes (suc n) (λ k e. let same : n ≡ k = omega arith in rw same at (leaf_closes n))

  -- an instance of the question with a closed tree below it
  pub record Rooted (n : ℕ) : Type 0 where
    pub root : Instance
    pub is_asked : Asked root
    pub grown : Grown (hang [] (instance root t.question)) n

  module _ (narrow : length t.question.literals ≤ suc w) where
    asking : (θ : Instance) → Asked θ → Piece
    unfolding all_clauses
    asking θ a =
        record {
          number = length t.clauses;
          clause = t.question;
          by = θ;
          there = some_last t.clauses t.question;
          narrow = narrow;
          question = λ e. a;
        }

    rooted : (θ : Instance) → Asked θ → (R : List Piece) → Beside R []
        → ((v : Valuation Variable) → AllTrue literals v R → clause_true v (instance θ t.question) ≢ true)
        → Rooted (length t.question.literals * leaf_needs w (length R))
    unfolding Each size asked instance
    rooted θ a R p f =
        let ls = instance θ t.question in
        let none : Each (λ k. ¬ Beside R (k ∷ [])) ls =
        each_more (λ k makes r. f r.0 r.1 (makes r.0 r.2.0)) ls (members_true ls) in
        let g = all_close (leaf_closes (length R)) R [] refl p ls none [] 0 (record { tree = bare; few = omega arith; only = tt }) in
        record { root = θ; is_asked = a; grown = rw (append-nil (hang [] ls), length-map t.question.literals (literal_under θ), add-zero (length t.question.literals * leaf_needs w (length R))) at g }

    -- pieces that are possible, and with instances of the question impossible: the first of these with which they are begins a closed tree
    pub begun : (θs : List Instance) → Each Asked θs → (R : List Piece) → Beside R []
        → ((v : Valuation Variable) → AllTrue literals v R → ¬ Each (λ θ. clause_true v (instance θ t.question) ≡ true) θs)
        → Rooted (length t.question.literals * leaf_needs w (pred (length R + length θs)))
    unfolding Each asking
    begun [] a R p f = absurd (f p.0 p.1 tt)
    begun (θ ∷ θs) a R p f =
        go (possible? variable? literals (asking θ a.0 ∷ R) []) (λ q. begun θs a.1 (asking θ a.0 ∷ R) q (λ v r h. f v r.1 (r.0, h)))
      where
        go : Dec (Beside (asking θ a.0 ∷ R) [])
            → (Beside (asking θ a.0 ∷ R) [] → Rooted (length t.question.literals * leaf_needs w (pred (suc (length R) + length θs))))
            → Rooted (length t.question.literals * leaf_needs w (pred (length R + suc (length θs))))
        go (yes q) on =
            let e : pred (suc (length R) + length θs) ≡ pred (length R + suc (length θs)) = omega arith in
            subst (λ (k : ℕ). Rooted (length t.question.literals * leaf_needs w k)) e (on q)
        go (no q) on =
            let r = rooted θ a.0 R p (λ v r h. q (v, (h, r), tt)) in
            let u : length R ≤ pred (length R + suc (length θs)) = omega arith in
            record { root = r.root; is_asked = r.is_asked; grown = more (mul-le-mul_left (length t.question.literals) (needs_up w (length R) (pred (length R + suc (length θs))) u)) r.grown }
