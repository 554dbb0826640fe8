-- Whether a closed tableau exists does not depend on the order of clauses and literals.
use lib.ListN.{length, get_elem?}
use mathlib.Core.Bool.{true}
use mathlib.Core.List.{List, [], ◌∷◌, ◌++◌, map}
use mathlib.Core.Logic.{◌⊎◌, inl, inr, ◌↔◌}
use mathlib.Core.Option.{some}
use mathlib.Core.Path.{◌≡◌, refl, sym, ◌∙◌, ap, subst}
use native.Mathlib.Omega.{arith}
use Prim.Native.Nat.{ℕ, zero, suc, ◌+◌, ◌<◌}
use Rattle.words.specs.declared.Step.{Step}
use Rattle.table.specs.Syntax.{Literal, literal_under, Clause, Table, all_clauses}
use Rattle.rules.specs.Reordered.{Reordered, empty, next, swapped, in_turn, SameClause, SameTable}
use Rattle.rules.specs.Substitution.{Variable}
use Rattle.rules.specs.Setting.{Profile, over}
use Rattle.rules.specs.Tableau.{Leaf, hang, others, Closed}
use Rattle.rules.proofs.Instances.{Instance, instance, opposite}
use Rattle.rules.proofs.Lifting.{closed_iff_tree}
use Rattle.rules.proofs.Lists.{none_some, last_or_before, some_append, some_last}
use Rattle.rules.proofs.Trees.{Tree, bare, reduction, extension, restart, size, Counted, counted, join, split, InstanceTree}

module _ {A : Type 0} where
  pub unchanged : (xs : List A) → Reordered ◌≡◌ xs xs
  unchanged [] = empty
  unchanged (x ∷ xs) = next refl (unchanged xs)

  pub reordered_append : {xs ys : List A} (zs : List A) → Reordered ◌≡◌ xs ys → Reordered ◌≡◌ (xs ++ zs) (ys ++ zs)
  reordered_append zs empty = unchanged zs
  reordered_append zs (next e r) = next e (reordered_append zs r)
  reordered_append zs swapped = swapped
  reordered_append zs (in_turn r q) = in_turn (reordered_append zs r) (reordered_append zs q)

pub reordered_map : {A B : Type 0} (f : A → B) {xs ys : List A} → Reordered ◌≡◌ xs ys → Reordered ◌≡◌ (map f xs) (map f ys)
reordered_map f empty = empty
reordered_map f (next e r) = next (ap f e) (reordered_map f r)
reordered_map f swapped = swapped
reordered_map f (in_turn r q) = in_turn (reordered_map f r) (reordered_map f q)

reordered_hang : (branch : List (Literal Variable)) {ls ms : List (Literal Variable)} → Reordered ◌≡◌ ls ms
    → Reordered ◌≡◌ (hang branch ls) (hang branch ms)
unfolding hang
reordered_hang branch r = reordered_map (λ l. record { literal = l; branch = branch }) r

-- an element's place after the reordering, and the others reordered
pub record Elsewhere (xs ys : List (Literal Variable)) (n : ℕ) (x : Literal Variable) : Type 0 where
  pub place : ℕ
  pub there : get_elem? ys place ≡ some x
  pub rest : Reordered ◌≡◌ (others n xs) (others place ys)

pub elsewhere : {xs ys : List (Literal Variable)} → Reordered ◌≡◌ xs ys → (n : ℕ) {x : Literal Variable} → get_elem? xs n ≡ some x
    → Elsewhere xs ys n x
unfolding others
elsewhere empty n e = absurd (none_some e)
elsewhere (next p r) zero e = record { place = zero; there = cc; rest = r }
elsewhere (next p r) (suc n) e = let k = elsewhere r n e in record { place = suc k.place; there = k.there; rest = next p k.rest }
elsewhere (swapped {xs = xs}) zero e = record { place = 1; there = e; rest = unchanged _ }
elsewhere (swapped {xs = xs}) (suc zero) e = record { place = 0; there = e; rest = unchanged _ }
elsewhere (swapped {xs = xs}) (suc (suc n)) e = record { place = suc (suc n); there = e; rest = swapped }
elsewhere (in_turn r q) n e =
    let k = elsewhere r n e in
    let l = elsewhere q k.place k.there in
    record { place = l.place; there = l.there; rest = in_turn k.rest l.rest }

module _ {rules : Profile} {t : Table} where
  both : {ls ms : List Leaf} {m n : ℕ} → Counted rules t ls m → Counted rules t ms n → Counted rules t (ls ++ ms) (m + n)
  both a b =
      let r = join a.tree b.tree in
      record { tree = r.tree; extensions = r.extensions ∙ rw (a.extensions, b.extensions) }

  -- the order of leaves does not matter
  pub permuted : {ls ms : List Leaf} → Reordered ◌≡◌ ls ms → {n : ℕ} → Counted rules t ls n → Counted rules t ms n
  permuted empty s = s
  permuted (next {x = x} {y = y} {xs = xs} e r) s =
      let p = split s.tree (x ∷ []) xs refl in
      let k = p.extensions ∙ s.extensions in
      let first = subst (λ (l : Leaf). Counted rules t (l ∷ []) (size p.left)) e (counted p.left) in
      rw (← k) (both first (permuted r (counted p.right)))
  permuted (swapped {x = x} {y = y} {xs = xs}) {n} s =
      let p = split s.tree (x ∷ y ∷ []) xs refl in
      let q = split p.left (x ∷ []) (y ∷ []) refl in
      let k : size q.right + size q.left + size p.right ≡ n =
      let a = p.extensions in let b = q.extensions in let c = s.extensions in omega arith in
      rw (← k) (both (both (counted q.right) (counted q.left)) (counted p.right))
  permuted (in_turn r q) s = permuted q (permuted r s)

-- a clause's place in another list, with its literals perhaps reordered
pub record Found (cs : List Clause) (c : Clause) : Type 0 where
  pub place : ℕ
  pub clause : Clause
  pub there : get_elem? cs place ≡ some clause
  pub literals : Reordered ◌≡◌ c.literals clause.literals

pub found : {cs ds : List Clause} → Reordered SameClause cs ds → (i : ℕ) {c : Clause} → get_elem? cs i ≡ some c → Found ds c
found empty i e = absurd (none_some e)
found (next {x = x} {y = y} s r) zero {c} e =
    let same : x ≡ c = cc in
    record { place = zero; clause = y; there = refl; literals = rw same at s.literals }
found (next s r) (suc i) e =
    let k = found r i e in
    record { place = suc k.place; clause = k.clause; there = k.there; literals = k.literals }
found swapped zero {c} e = record { place = 1; clause = c; there = e; literals = unchanged c.literals }
found swapped (suc zero) {c} e = record { place = 0; clause = c; there = e; literals = unchanged c.literals }
found swapped (suc (suc i)) {c} e = record { place = suc (suc i); clause = c; there = e; literals = unchanged c.literals }
found (in_turn r q) i e =
    let k = found r i e in
    let l = found q k.place k.there in
    record { place = l.place; clause = l.clause; there = l.there; literals = in_turn k.literals l.literals }

-- every clause of one table has its place in the other
pub record Covered (t u : Table) : Type 0 where
  pub finds : (i : ℕ) (c : Clause) → get_elem? (all_clauses t) i ≡ some c → Found (all_clauses u) c

module _ {rules : Profile} {t u : Table} (covered : Covered t u) (same : Reordered ◌≡◌ t.question.literals u.question.literals) where
  covered-extension : (leaf : Leaf) (rest below : List Leaf) (clause : Clause) (i j : ℕ) (θ : Instance) (n : ℕ)
      → rules.extends leaf.literal.negative ≡ true → get_elem? (all_clauses t) i ≡ some clause
      → get_elem? (instance θ clause) j ≡ some (opposite leaf.literal)
      → hang (leaf.literal ∷ leaf.branch) (others j (instance θ clause)) ++ rest ≡ below → Counted rules u below n → Counted rules u (leaf ∷ rest) (suc n)
  unfolding size instance
  covered-extension leaf rest below clause i j θ n u c a hung s =
      let f = covered.finds i clause c in
      let k = elsewhere (reordered_map (literal_under θ) f.literals) j a in
      let moved = reordered_append rest (reordered_hang (leaf.literal ∷ leaf.branch) k.rest) in
      let r = permuted moved (rw (← hung) at s) in
      record { tree = extension f.place k.place θ u f.there k.there refl r.tree; extensions = ap suc r.extensions }

  covered_restart : (leaf : Leaf) (rest below : List Leaf) (θ : Instance) (n : ℕ) → rules.restarts leaf.literal.negative ≡ true
      → hang (leaf.literal ∷ leaf.branch) (instance θ t.question) ++ rest ≡ below → Counted rules u below n → Counted rules u (leaf ∷ rest) (suc n)
  unfolding size instance
  covered_restart leaf rest below θ n u hung s =
      let moved = reordered_append rest (reordered_hang (leaf.literal ∷ leaf.branch) (reordered_map (literal_under θ) same)) in
      let r = permuted moved (rw (← hung) at s) in
      record { tree = restart θ u refl r.tree; extensions = ap suc r.extensions }

  pub covered_tree : {ls : List Leaf} (tree : Tree rules t ls) → Counted rules u ls (size tree)
  unfolding size
  covered_tree bare = record { tree = bare; extensions = refl }
  covered_tree (reduction h a below) =
      let r = covered_tree below in
      record { tree = reduction h a r.tree; extensions = r.extensions }
  covered_tree (extension {leaf = leaf} {rest = rest} {below = ls} {clause = clause} i j θ u c a hung below) =
      covered-extension leaf rest ls clause i j θ (size below) u c a hung (covered_tree below)
  covered_tree (restart {leaf = leaf} {rest = rest} {below = ls} θ u hung below) = covered_restart leaf rest ls θ (size below) u hung (covered_tree below)

  -- where every clause of one table has its place in the other, and the questions are the same, a tree of one is a tree of the other
  pub covered_whole : (x : InstanceTree rules t) → (y : InstanceTree rules u) × (size y.tree ≡ size x.tree)
  unfolding instance
  covered_whole x =
      let leaves = reordered_hang [] (reordered_map (literal_under x.root) same) in
      let s = permuted leaves (subst (λ (ls : List Leaf). Counted rules u ls (size x.tree)) (sym x.hung) (covered_tree x.tree)) in
      (record { root = x.root; leaves = hang [] (instance x.root u.question); hung = refl; tree = s.tree }, s.extensions)

  pub covered_closed : (bound : ℕ) → (ss : List Step) × Closed (over rules t bound) ss → (ss : List Step) × Closed (over rules u bound) ss
  covered_closed bound c =
      let x = (closed_iff_tree (over rules t bound)).0 c in
      let y = covered_whole x.0 in
      (closed_iff_tree (over rules u bound)).1 (y.0, rw y.1 x.1)

pub same_covered : {t u : Table} → SameTable t u → Covered t u
unfolding all_clauses
same_covered {t} {u} same = record { finds = λ i c e. by_cases i c (last_or_before t.clauses t.question i e) }
  where
    by_cases : (i : ℕ) (c : Clause)
        → ((i ≡ length t.clauses) × (c ≡ t.question)) ⊎ ((i < length t.clauses) × (get_elem? t.clauses i ≡ some c))
        → Found (u.clauses ++ (u.question ∷ [])) c
    by_cases i c (inl h) =
        record {
          place = length u.clauses;
          clause = u.question;
          there = some_last u.clauses u.question;
          literals = rw h.1 same.question.literals;
        }
    by_cases i c (inr h) =
        let k = found same.clauses i h.1 in
        record {
          place = k.place;
          clause = k.clause;
          there = some_append u.clauses (u.question ∷ []) k.place k.there;
          literals = k.literals;
        }

backwards : {A : Type 0} {R : A → A → Type 0} → ((x y : A) → R x y → R y x) → {xs ys : List A} → Reordered R xs ys → Reordered R ys xs
backwards turn empty = empty
backwards turn (next {x = x} {y = y} r q) = next (turn x y r) (backwards turn q)
backwards turn swapped = swapped
backwards turn (in_turn r q) = in_turn (backwards turn q) (backwards turn r)

same_clause_back : (c d : Clause) → SameClause c d → SameClause d c
same_clause_back c d s = record { variables = sym s.variables; literals = backwards (λ x y e. sym e) s.literals }

pub same_back : {t u : Table} → SameTable t u → SameTable u t
same_back {t} {u} s =
    record { clauses = backwards same_clause_back s.clauses; question = same_clause_back t.question u.question s.question }

same_closed : (rules : Profile) {t u : Table} → SameTable t u → (bound : ℕ) → (ss : List Step) × Closed (over rules t bound) ss → (ss : List Step) × Closed (over rules u bound) ss
same_closed rules same = covered_closed (same_covered same) same.question.literals

-- the order of clauses and of literals does not matter to whether a closed tableau exists
pub reordered_closed : (rules : Profile) {t u : Table} → SameTable t u → (bound : ℕ)
    → ((ss : List Step) × Closed (over rules t bound) ss) ↔ ((ss : List Step) × Closed (over rules u bound) ss)
reordered_closed rules same bound = (same_closed rules same bound, same_closed rules (same_back same) bound)
