-- A closed tableau copies no clause with a literal that has no partner: such a literal's leaf could close against nothing, and nothing could be closed by it.
use lib.ListN.{length, take, drop, get_elem?}
use mathlib.Core.Bool.{Bool, true, false, beq, not, ◌||◌}
use mathlib.Core.List.{List, [], ◌∷◌, ◌++◌, map}
use mathlib.Core.Option.{some}
use mathlib.Core.Path.{◌≡◌, refl, sym, ap, ◌∙◌, subst}
use borrow.Author.Tests.{eq-eqb}
use native.Mathlib.Omega.{arith}
use Prim.Native.Nat.{ℕ, zero, suc}
use Rattle.words.specs.declared.Step.{Step}
use Rattle.table.specs.Syntax.{arity, Literal, literal_under, Clause, Table, all_clauses}
use Rattle.rules.specs.Setting.{every_leaf, base}
use Rattle.rules.specs.Substitution.{Variable}
use Rattle.rules.specs.Tableau.{Leaf, hang, ancestor, others, Closed}
use Rattle.rules.proofs.Instances.{Instance, instance, opposite, arity_unders}
use Rattle.rules.proofs.Lifting.{closed_iff_tree}
use Rattle.rules.proofs.Lists.{none_some, All, all_left, all_right, all_at, all_append, all_more, some_last, map_some_back}
use Rattle.rules.proofs.Trees.{Tree, bare, reduction, extension, restart, size, Counted, InstanceTree}
use Rattle.slim.specs.Dropping.{some_of, opposed, partnered, dead}

-- the same sign, predicate and arity
pub record Like (l : Literal ℕ) (k : Literal Variable) : Type 0 where
  pub negative : l.negative ≡ k.negative
  pub predicate : l.predicate ≡ k.predicate
  pub arity : arity l.arguments ≡ arity k.arguments

instance_like : (θ : Instance) (l : Literal ℕ) → Like l (literal_under θ l)
unfolding literal_under
instance_like θ l = record { negative = refl; predicate = refl; arity = sym (arity_unders θ l.arguments) }

-- some clause of the table has a literal like it
pub record Has (t : Table) (k : Literal Variable) : Type 0 where
  pub number : ℕ
  pub clause : Clause
  pub there : get_elem? (all_clauses t) number ≡ some clause
  pub place : ℕ
  pub literal : Literal ℕ
  pub among : get_elem? clause.literals place ≡ some literal
  pub like : Like literal k

some_at : {A : Type 0} (test : A → Bool) (xs : List A) (n : ℕ) {x : A} → get_elem? xs n ≡ some x → test x ≡ true → some_of test xs ≡ true
unfolding some_of
some_at test [] n e h = absurd (none_some e)
some_at test (x ∷ xs) zero {x = y} e h = let same : x ≡ y = cc in rw (same, h)
some_at test (x ∷ xs) (suc n) e h = rw (some_at test xs n e h) (or_true (test x))
  where
    or_true : (b : Bool) → (b || true) ≡ true
    or_true true = refl
    or_true false = refl

opposed_of : (n m : Bool) → m ≡ not n → not (beq n m) ≡ true
opposed_of true m e = rw e
opposed_of false m e = rw e

-- a literal whose opposite the table has is partnered
pub has_partner : (t : Table) (l : Literal ℕ) (θ : Instance) → Has t (opposite (literal_under θ l)) → partnered t l ≡ true
unfolding partnered opposed opposite literal_under
has_partner t l θ h =
    let m = h.literal in
    let n = h.like.negative in
    let a : arity l.arguments ≡ arity h.literal.arguments = sym (arity_unders θ l.arguments) ∙ sym h.like.arity in
    let fits : opposed l h.literal ≡ true =
    rw (opposed_of l.negative m.negative n, eq-eqb l.predicate m.predicate (sym h.like.predicate), eq-eqb (arity l.arguments) (arity m.arguments) a)
    in
    some_at (λ c. some_of (opposed l) c.literals) (all_clauses t) h.number h.there (some_at (opposed l) h.clause.literals h.place h.among fits)

-- all literals but one, and that one
module _ {A : Type 0} (P : A → Type 0) where
  all_take : (n : ℕ) (xs : List A) → All P xs → All P (take n xs)
  unfolding All
  all_take zero xs h = tt
  all_take (suc n) [] h = tt
  all_take (suc n) (x ∷ xs) h = (h.0, all_take n xs h.1)

  all_drop : (n : ℕ) (xs : List A) → All P xs → All P (drop n xs)
  unfolding All
  all_drop zero xs h = h
  all_drop (suc n) [] h = tt
  all_drop (suc n) (x ∷ xs) h = all_drop n xs h.1

  all_back : (xs : List A) (n : ℕ) {x : A} → get_elem? xs n ≡ some x → P x → All P (take n xs ++ drop (suc n) xs) → All P xs
  unfolding All
  all_back [] n e p h = tt
  all_back (y ∷ xs) zero {x} e p h = let same : y ≡ x = cc in (rw same p, h)
  all_back (y ∷ xs) (suc n) e p h = (h.0, all_back xs n e p h.1)

  all_map : {B : Type 0} (f : B → A) (xs : List B) → All P (map f xs) → All (λ x. P (f x)) xs
  unfolding All
  all_map f [] h = tt
  all_map f (x ∷ xs) h = (h.0, all_map f xs h.1)

  map-all : {B : Type 0} (f : B → A) (xs : List B) → All (λ x. P (f x)) xs → All P (map f xs)
  unfolding All
  map-all f [] h = tt
  map-all f (x ∷ xs) h = (h.0, map-all f xs h.1)

  all-of-places : (xs : List A) → ((n : ℕ) (x : A) → get_elem? xs n ≡ some x → P x) → All P xs
  unfolding All
  all-of-places [] h = tt
  all-of-places (x ∷ xs) h = (h 0 x refl, all-of-places xs (λ n y e. h (suc n) y e))

module _ (t : Table) where
  -- a leaf whose literal and branch come from clauses of the table
  abbrev Sourced : Leaf → Type 0
  Sourced leaf = Has t leaf.literal × All (Has t) leaf.branch

  abbrev Meets : Leaf → Type 0
  Meets leaf = Has t (opposite leaf.literal)

  instance-has : (i : ℕ) (clause : Clause) (θ : Instance) → get_elem? (all_clauses t) i ≡ some clause → All (Has t) (instance θ clause)
  unfolding instance
  instance-has i clause θ e =
      all-of-places (Has t) (map (literal_under θ) clause.literals)
      (λ n k f. from n k (map_some_back (literal_under θ) clause.literals n f))
    where
      from : (n : ℕ) (k : Literal Variable) → (a : Literal ℕ) × (get_elem? clause.literals n ≡ some a) × (literal_under θ a ≡ k) → Has t k
      from n k q =
          record { number = i; clause = clause; there = e; place = n; literal = q.0; among = q.1; like = subst (λ (m : Literal Variable). Like q.0 m) q.2 (instance_like θ q.0) }

  hang_sourced : (branch : List (Literal Variable)) → All (Has t) branch → (ls : List (Literal Variable)) → All (Has t) ls → All Sourced (hang branch ls)
  unfolding hang All
  hang_sourced branch b [] h = tt
  hang_sourced branch b (l ∷ ls) h = ((h.0, b), hang_sourced branch b ls h.1)

  hang_meets : (branch ls : List (Literal Variable)) → All Meets (hang branch ls) → All (λ k. Has t (opposite k)) ls
  unfolding hang All
  hang_meets branch [] h = tt
  hang_meets branch (l ∷ ls) h = (h.0, hang_meets branch ls h.1)

  above : (height : ℕ) (branch : List (Literal Variable)) {k : Literal Variable} → ancestor height branch ≡ some k → All (Has t) branch → Has t k
  unfolding ancestor
  above zero branch e h = absurd (none_some e)
  above (suc n) branch e h = all_at (Has t) branch n e h

  below_sourced : (leaf : Leaf) (rest below : List Leaf) (clause : Clause) (i j : ℕ) (θ : Instance) → get_elem? (all_clauses t) i ≡ some clause
      → hang (leaf.literal ∷ leaf.branch) (others j (instance θ clause)) ++ rest ≡ below → Sourced leaf → All Sourced rest → All Sourced below
  unfolding others All
  below_sourced leaf rest below clause i j θ e hung s r =
      let own = instance-has i clause θ e in
      let others-have = all_append (Has t) (take j (instance θ clause)) (drop (suc j) (instance θ clause)) (all_take (Has t) j (instance θ clause) own) (all_drop (Has t) (suc j) (instance θ clause) own) in
      subst (λ (ls : List Leaf). All Sourced ls) hung
      (all_append Sourced (hang (leaf.literal ∷ leaf.branch) (others j (instance θ clause))) rest (hang_sourced (leaf.literal ∷ leaf.branch) (s.0, s.1) (others j (instance θ clause)) others-have) r)

  -- every leaf of a closed tree meets a literal of the table
  meets : {ls : List Leaf} (tree : Tree every_leaf t ls) → All Sourced ls → All Meets ls
  unfolding All
  meets bare h = tt
  meets (reduction {leaf = leaf} height a below) h = (above height leaf.branch a h.0.1, meets below h.1)
  meets (extension {leaf = leaf} {rest = rest} {below = ls} {clause = clause} i j θ u c a hung below) h =
      let own = instance-has i clause θ c in
      let further = meets below (below_sourced leaf rest ls clause i j θ c hung h.0 h.1) in
      (all_at (Has t) (instance θ clause) j a own, all_right Meets (hang (leaf.literal ∷ leaf.branch) (others j (instance θ clause))) rest (subst (λ (ms : List Leaf). All Meets ms) (sym hung) further))
  meets (restart θ u hung below) h = let z : ◌≡◌ {A = ℕ} 0 1 = cc in absurd (omega arith)

  twice : (k : Literal Variable) → opposite (opposite k) ≡ k
  unfolding opposite
  twice k = rw (double k.negative)
    where
      double : (b : Bool) → not (not b) ≡ b
      double true = refl
      double false = refl

  none_dead : (ls : List (Literal ℕ)) → All (λ l. partnered t l ≡ true) ls → some_of (λ l. not (partnered t l)) ls ≡ false
  unfolding some_of All
  none_dead [] k = refl
  none_dead (l ∷ ls) k = rw k.0 (none_dead ls k.1)

  -- a clause that a closed tree copies is not dead
  copied_alive : (leaf : Leaf) (rest below : List Leaf) (clause : Clause) (i j : ℕ) (θ : Instance) → get_elem? (all_clauses t) i ≡ some clause
      → get_elem? (instance θ clause) j ≡ some (opposite leaf.literal) → hang (leaf.literal ∷ leaf.branch) (others j (instance θ clause)) ++ rest ≡ below
      → Sourced leaf → All Meets below → dead t clause ≡ false
  unfolding dead others instance
  copied_alive leaf rest below clause i j θ c a hung s m =
      let hanging = hang (leaf.literal ∷ leaf.branch) (others j (instance θ clause)) in
      let met = hang_meets (leaf.literal ∷ leaf.branch) (others j (instance θ clause)) (all_left Meets hanging rest (subst (λ (ls : List Leaf). All Meets ls) (sym hung) m)) in
      let entered : Has t (opposite (opposite leaf.literal)) = subst (λ (k : Literal Variable). Has t k) (sym (twice leaf.literal)) s.0 in
      let every = all_back (λ k. Has t (opposite k)) (instance θ clause) j a entered met in
      let own = all_map (λ k. Has t (opposite k)) (literal_under θ) clause.literals every in
      none_dead clause.literals (all_more (λ l. Has t (opposite (literal_under θ l))) (λ l. partnered t l ≡ true) (λ l h. has_partner t l θ h) clause.literals own)

-- where one table has every clause of the other that is not dead, and the same question, a closed tableau of the other is one of it
pub record Spares (t u : Table) : Type 0 where
  pub question : t.question ≡ u.question
  pub finds : (i : ℕ) (c : Clause) → get_elem? (all_clauses t) i ≡ some c → dead t c ≡ false → (k : ℕ) × (get_elem? (all_clauses u) k ≡ some c)

module _ {t u : Table} (spares : Spares t u) where
  spared-tree : {ls : List Leaf} (tree : Tree every_leaf t ls) → All (Sourced t) ls → Counted every_leaf u ls (size tree)
  unfolding size All
  spared-tree bare h = record { tree = bare; extensions = refl }
  spared-tree (reduction height a below) h =
      let r = spared-tree below h.1 in
      record { tree = reduction height a r.tree; extensions = r.extensions }
  spared-tree (extension {leaf = leaf} {rest = rest} {below = ls} {clause = clause} i j θ e c a hung below) h =
      let sourced = below_sourced t leaf rest ls clause i j θ c hung h.0 h.1 in
      let r = spared-tree below sourced in
      let k = spares.finds i clause c (copied_alive t leaf rest ls clause i j θ c a hung h.0 (meets t below sourced)) in
      record { tree = extension k.0 j θ e k.1 a hung r.tree; extensions = ap suc r.extensions }
  spared-tree (restart θ u hung below) h = let z : ◌≡◌ {A = ℕ} 0 1 = cc in absurd (omega arith)

  spared_whole : (x : InstanceTree every_leaf t) → (y : InstanceTree every_leaf u) × (size y.tree ≡ size x.tree)
  unfolding all_clauses All
  spared_whole x =
      let has = instance-has t (length t.clauses) t.question x.root (some_last t.clauses t.question) in
      let sourced = subst (λ (ls : List Leaf). All (Sourced t) ls) x.hung (hang_sourced t [] tt (instance x.root t.question) has) in
      let r = spared-tree x.tree sourced in
      (record { root = x.root; leaves = x.leaves; hung = ap (λ (c : Clause). hang [] (instance x.root c)) (sym spares.question) ∙ x.hung; tree = r.tree }, r.extensions)

  pub spared_closed : (bound : ℕ) → (ss : List Step) × Closed (base t bound) ss → (ss : List Step) × Closed (base u bound) ss
  spared_closed bound c =
      let x = (closed_iff_tree (base t bound)).0 c in
      let y = spared_whole x.0 in
      (closed_iff_tree (base u bound)).1 (y.0, rw y.1 x.1)
