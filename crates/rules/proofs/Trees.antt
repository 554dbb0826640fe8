-- Instance trees: every extension hangs an arbitrary instance of a clause, a restart one of the question, and literals close that are opposite to the letter. No copies and no bindings.
use lib.Dec.{eqb}
use lib.ListN.{length, get_elem?}
use mathlib.Core.Bool.{true, cond}
use mathlib.Core.List.{List, [], ◌∷◌, ◌++◌, append_assoc}
use mathlib.Core.Option.{some}
use mathlib.Core.Path.{◌≡◌, refl, sym, ◌∙◌, ap, subst}
use native.Mathlib.Omega.{arith}
use Prim.Native.Nat.{ℕ, zero, suc, ◌+◌}
use Rattle.words.specs.declared.Step.{Step}
use Rattle.words.specs.declared.Step.TheVariants.{Reduction, Extension, Restart}
use Rattle.table.specs.Syntax.{Clause, Table, all_clauses}
use Rattle.rules.specs.Setting.{Profile}
use Rattle.rules.specs.Tableau.{Leaf, hang, ancestor, others}
use Rattle.rules.proofs.Instances.{Instance, instance, opposite}

-- closed trees below these leaves
pub data Tree (rules : Profile) (t : Table) : List Leaf → Type 0 where
  bare : Tree rules t []
  reduction : {leaf : Leaf} {rest : List Leaf} (height : ℕ) → ancestor height leaf.branch ≡ some (opposite leaf.literal)
      → Tree rules t rest → Tree rules t (leaf ∷ rest)
  extension : {leaf : Leaf} {rest below : List Leaf} {clause : Clause} (i j : ℕ) (θ : Instance)
      → rules.extends leaf.literal.negative ≡ true → get_elem? (all_clauses t) i ≡ some clause
      → get_elem? (instance θ clause) j ≡ some (opposite leaf.literal)
      → hang (leaf.literal ∷ leaf.branch) (others j (instance θ clause)) ++ rest ≡ below → Tree rules t below → Tree rules t (leaf ∷ rest)
  restart : {leaf : Leaf} {rest below : List Leaf} (θ : Instance) → rules.restarts leaf.literal.negative ≡ true
      → hang (leaf.literal ∷ leaf.branch) (instance θ t.question) ++ rest ≡ below → Tree rules t below → Tree rules t (leaf ∷ rest)

module _ {rules : Profile} {t : Table} where
  -- extensions made
  unfoldable pub size : {ls : List Leaf} → Tree rules t ls → ℕ
  size bare = zero
  size (reduction h a below) = size below
  size (extension i j θ u c a e below) = suc (size below)
  size (restart θ u e below) = suc (size below)

  -- the instances hung, in order
  unfoldable pub instances : {ls : List Leaf} → Tree rules t ls → List Instance
  instances bare = []
  instances (reduction h a below) = instances below
  instances (extension i j θ u c a e below) = θ ∷ instances below
  instances (restart θ u e below) = θ ∷ instances below

  unfoldable pub steps : {ls : List Leaf} → Tree rules t ls → List Step
  steps bare = []
  steps (reduction h a below) = Reduction h ∷ steps below
  steps (extension i j θ u c a e below) = Extension i j ∷ steps below
  steps (restart θ u e below) = Restart ∷ steps below

  -- the instances of the question among the instances hung, in order
  unfoldable pub asked : {ls : List Leaf} → Tree rules t ls → List Instance
  asked bare = []
  asked (reduction h a below) = asked below
  asked (extension i j θ u c a e below) = cond (eqb i (length t.clauses)) (θ ∷ asked below) (asked below)
  asked (restart θ u e below) = θ ∷ asked below

-- a closed tree whose root is an instance of the question
pub record InstanceTree (rules : Profile) (t : Table) : Type 0 where
  pub root : Instance
  pub leaves : List Leaf
  pub hung : hang [] (instance root t.question) ≡ leaves
  pub tree : Tree rules t leaves

-- a tree below these leaves with this many extensions
pub record Counted (rules : Profile) (t : Table) (ls : List Leaf) (n : ℕ) : Type 0 where
  pub tree : Tree rules t ls
  pub extensions : size tree ≡ n

pub record Parts (rules : Profile) (t : Table) (ls ms : List Leaf) (n : ℕ) : Type 0 where
  pub left : Tree rules t ls
  pub right : Tree rules t ms
  pub extensions : size left + size right ≡ n

module _ {rules : Profile} {t : Table} where
  pub counted : {ls : List Leaf} (tree : Tree rules t ls) → Counted rules t ls (size tree)
  counted tree = record { tree = tree; extensions = refl }

  -- trees below some leaves and below others are trees below all
  pub join : {ls : List Leaf} (tree : Tree rules t ls) {ms : List Leaf} (other : Tree rules t ms) → Counted rules t (ls ++ ms) (size tree + size other)
  unfolding size
  join bare other = record { tree = other; extensions = omega arith }
  join (reduction h a below) other =
      let r = join below other in
      record { tree = reduction h a r.tree; extensions = r.extensions }
  join (extension {leaf = leaf} {rest = rest} {clause = clause} i j θ u c a hung below) {ms} other =
      let r = join below other in
      let h = hang (leaf.literal ∷ leaf.branch) (others j (instance θ clause)) in
      let e = sym (append_assoc h rest ms) ∙ ap (λ (ls : List Leaf). ls ++ ms) hung in
      let k = r.extensions in
      record { tree = extension i j θ u c a e r.tree; extensions = omega arith }
  join (restart {leaf = leaf} {rest = rest} θ u hung below) {ms} other =
      let r = join below other in
      let h = hang (leaf.literal ∷ leaf.branch) (instance θ t.question) in
      let e = sym (append_assoc h rest ms) ∙ ap (λ (ls : List Leaf). ls ++ ms) hung in
      let k = r.extensions in
      record { tree = restart θ u e r.tree; extensions = omega arith }

  -- and the other way round
  split_none : {both : List Leaf} (tree : Tree rules t both) (ms : List Leaf) → ms ≡ both → Parts rules t [] ms (size tree)
  unfolding size
  split_none tree ms e =
      let r = subst (λ (ls : List Leaf). Counted rules t ls (size tree)) (sym e) (counted tree) in
      let k = r.extensions in
      record { left = bare; right = r.tree; extensions = omega arith }

  pub split : {both : List Leaf} (tree : Tree rules t both) (ls ms : List Leaf) → ls ++ ms ≡ both → Parts rules t ls ms (size tree)
  unfolding size
  split bare [] ms e = split_none bare ms e
  split bare (l ∷ ls) ms e = let z : ◌≡◌ {A = ℕ} 0 1 = cc in absurd (omega arith)
  split (reduction h a below) [] ms e = split_none (reduction h a below) ms e
  split (reduction {leaf = leaf} h a below) (l ∷ ls) ms e =
      let same : l ≡ leaf = cc in
      let r = split below ls ms (cc) in
      record { left = reduction {leaf = l} h (rw same a) r.left; right = r.right; extensions = r.extensions }
  split (extension i j θ u c a hung below) [] ms e = split_none (extension i j θ u c a hung below) ms e
  split (extension {leaf = leaf} {rest = rest} {clause = clause} i j θ u c a hung below) (l ∷ ls) ms e =
      let same : l ≡ leaf = cc in
      let tail : ls ++ ms ≡ rest = cc in
      let h = hang (l.literal ∷ l.branch) (others j (instance θ clause)) in
      let r = split below (h ++ ls) ms (append_assoc h ls ms ∙ rw (same, tail) hung) in
      let k = r.extensions in
      record { left = extension {leaf = l} i j θ (rw same u) c (rw same a) refl r.left; right = r.right; extensions = omega arith }
  split (restart θ u hung below) [] ms e = split_none (restart θ u hung below) ms e
  split (restart {leaf = leaf} {rest = rest} θ u hung below) (l ∷ ls) ms e =
      let same : l ≡ leaf = cc in
      let tail : ls ++ ms ≡ rest = cc in
      let h = hang (l.literal ∷ l.branch) (instance θ t.question) in
      let r = split below (h ++ ls) ms (append_assoc h ls ms ∙ rw (same, tail) hung) in
      let k = r.extensions in
      record { left = restart {leaf = l} θ (rw same u) refl r.left; right = r.right; extensions = omega arith }
