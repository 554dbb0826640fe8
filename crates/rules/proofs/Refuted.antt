-- A closed tree refutes its leaves: whatever literals are true, as long as signs turn truth over, a leaf all of whose ancestors are true is false
-- where each instance hung has a true literal.
use borrow.Author.Tests.{not-true}
use lib.ListN.{get_elem?}
use mathlib.Core.Bool.{Bool, true, false, true≢false, not, ◌||◌}
use mathlib.Core.List.{List, [], ◌∷◌, ◌++◌}
use mathlib.Core.Option.{some}
use mathlib.Core.Path.{◌≡◌, refl, sym, ◌∙◌, ap}
use Prim.Native.Nat.{ℕ, zero, suc}
use Rattle.table.specs.Syntax.{Literal, Table}
use Rattle.rules.specs.Substitution.{Variable}
use Rattle.rules.specs.Setting.{Profile}
use Rattle.rules.specs.Tableau.{Leaf, hang, ancestor, others}
use Rattle.rules.proofs.Instances.{instance, opposite, ancestor_at}
use Rattle.rules.proofs.Lists.{All, all_left, all_right, all_at}
use Rattle.rules.proofs.Trees.{Tree, bare, reduction, extension, restart, InstanceTree}

module _ (is_true : Literal Variable → Bool) where
  unfoldable pub one_true : List (Literal Variable) → Bool
  one_true [] = false
  one_true (l ∷ ls) = is_true l || one_true ls

  -- each instance hung has a true literal
  unfoldable pub HungTrue : {rules : Profile} {t : Table} {ls : List Leaf} → Tree rules t ls → Type 0
  HungTrue bare = Unit {0}
  HungTrue (reduction h a below) = HungTrue below
  HungTrue (extension {clause = clause} i j θ u c a e below) = (one_true (instance θ clause) ≡ true) × HungTrue below
  HungTrue {t = t} (restart θ u e below) = (one_true (instance θ t.question) ≡ true) × HungTrue below

  -- a leaf all of whose ancestors are true is false
  abbrev Refuted : Leaf → Type 0
  Refuted leaf = All (λ m. is_true m ≡ true) leaf.branch → is_true leaf.literal ≡ false

  all_false : (ls : List (Literal Variable)) → All (λ l. is_true l ≡ false) ls → one_true ls ≡ false
  unfolding one_true All
  all_false [] h = refl
  all_false (l ∷ ls) h = rw h.0 (all_false ls h.1)

  -- where the entered literal and all others are false, none is true
  none_true : (ls : List (Literal Variable)) (j : ℕ) {m : Literal Variable} → get_elem? ls j ≡ some m → is_true m ≡ false
      → All (λ l. is_true l ≡ false) (others j ls) → one_true ls ≡ false
  unfolding others one_true All
  none_true [] j e f h = refl
  none_true (l ∷ ls) zero {m} e f h = let same : l ≡ m = cc in rw (same, f) (all_false ls h)
  none_true (l ∷ ls) (suc j) e f h = rw h.0 (none_true ls j e f h.1)

  refuted-below : (branch ls : List (Literal Variable)) → All Refuted (hang branch ls) → All (λ m. is_true m ≡ true) branch
      → All (λ l. is_true l ≡ false) ls
  unfolding hang All
  refuted-below branch [] h b = tt
  refuted-below branch (l ∷ ls) h b = (h.0 b, refuted-below branch ls h.1 b)

  ancestor-true : (h : ℕ) (branch : List (Literal Variable)) {m : Literal Variable} → ancestor h branch ≡ some m
      → All (λ m. is_true m ≡ true) branch → is_true m ≡ true
  ancestor-true h branch e b = let k = ancestor_at h branch e in all_at (λ m. is_true m ≡ true) branch k.0 k.2 b

  module _ (turns : (l : Literal Variable) → is_true (opposite l) ≡ not (is_true l)) where
    -- a leaf with an instance below it that has a true literal, all of whose other literals are refuted, is refuted
    refuted-by : (leaf : Leaf) (ls : List (Literal Variable)) (j : ℕ) (b : Bool) → get_elem? ls j ≡ some (opposite leaf.literal)
        → one_true ls ≡ true → All Refuted (hang (leaf.literal ∷ leaf.branch) (others j ls))
        → All (λ m. is_true m ≡ true) leaf.branch → is_true leaf.literal ≡ b → b ≡ false
    unfolding All
    refuted-by leaf ls j true e s h branch v =
        let below = refuted-below (leaf.literal ∷ leaf.branch) (others j ls) h (v, branch) in
        sym s ∙ none_true ls j e (turns leaf.literal ∙ ap not v) below
    refuted-by leaf ls j false e s h branch v = refl

    -- and so is one with such an instance below it all of whose literals are refuted
    refuted-anew : (leaf : Leaf) (ls : List (Literal Variable)) (b : Bool) → one_true ls ≡ true → All Refuted (hang (leaf.literal ∷ leaf.branch) ls)
        → All (λ m. is_true m ≡ true) leaf.branch → is_true leaf.literal ≡ b → b ≡ false
    unfolding All
    refuted-anew leaf ls true s h branch v = sym s ∙ all_false ls (refuted-below (leaf.literal ∷ leaf.branch) ls h (v, branch))
    refuted-anew leaf ls false s h branch v = refl

    tree-refutes : {rules : Profile} {t : Table} {ls : List Leaf} (tree : Tree rules t ls) → HungTrue tree → All Refuted ls
    unfolding HungTrue All
    tree-refutes bare d = tt
    tree-refutes (reduction {leaf = leaf} h e below) d = (
      λ branch. not-true (is_true leaf.literal) (sym (turns leaf.literal) ∙ ancestor-true h leaf.branch e branch),
      tree-refutes below d,
    )
    tree-refutes (extension {leaf = leaf} {rest = rest} {clause = clause} i j θ u c e eq below) d =
        let ls : List (Literal Variable) = instance θ clause in
        let hung : List Leaf = hang (leaf.literal ∷ leaf.branch) (others j ls) in
        let h : All Refuted (hung ++ rest) = rw eq (tree-refutes below d.1) in (
          λ branch. refuted-by leaf ls j _ e d.0 (all_left Refuted hung rest h) branch refl,
          all_right Refuted hung rest h,
        )
    tree-refutes {t = t} (restart {leaf = leaf} {rest = rest} θ u eq below) d =
        let ls : List (Literal Variable) = instance θ t.question in
        let hung : List Leaf = hang (leaf.literal ∷ leaf.branch) ls in
        let h : All Refuted (hung ++ rest) = rw eq (tree-refutes below d.1) in (
          λ branch. refuted-anew leaf ls _ d.0 (all_left Refuted hung rest h) branch refl,
          all_right Refuted hung rest h,
        )

    -- a tree whose every instance, the root too, has a true literal is not closed
    pub tree_false : {rules : Profile} {t : Table} (x : InstanceTree rules t) → one_true (instance x.root t.question) ≡ true → HungTrue x.tree → ⊥
    unfolding All
    tree_false {t = t} x r d =
        let ls : List (Literal Variable) = instance x.root t.question in
        let h : All Refuted (hang [] ls) = rw x.hung (tree-refutes x.tree d) in
        true≢false (sym r ∙ all_false ls (refuted-below [] ls h tt))
