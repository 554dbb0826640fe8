-- The stated order (document 01, "Tableau rules", and order 11): the candidates of a leaf, one list of steps before another, and the tries that the order needs.
use Rattle.std.specs.Prelude.{Bool, true, false, cond, List, [], ◌∷◌, ◌++◌, ◌⊎◌, ◌≡◌, ℕ, suc, ◌<◌}
use Rattle.std.proofs.Math.Option.{some}
use Rattle.words.specs.declared.Step.{Step}
use Rattle.words.specs.declared.Step.TheVariants.{Reduction, Extension, Restart, Malformed}
use Rattle.table.specs.Syntax.{Literal, Clause, all_clauses}
use Rattle.rules.specs.Substitution.{Variable, Unifiable}
use Rattle.rules.specs.Setting.{Setting}
use Rattle.rules.specs.System as System
pub use Rattle.rules.specs.System.{found, nothing}
use Rattle.rules.specs.System.{System}
use Rattle.rules.specs.Tableau.{copy_of, fits, Leaf, Tableau, may_extend, may_restart, stepped, Closed}

-- at a leaf: reductions, nearest ancestor first; then the restart; then extensions by clause, then literal
unfoldable pub Precedes : Step → Step → Type 0
Precedes (Reduction h) (Reduction k) = h < k
Precedes (Reduction h) (Extension i j) = Unit {0}
Precedes (Reduction h) Restart = Unit {0}
Precedes (Reduction h) Malformed = ⊥
Precedes Restart (Reduction k) = ⊥
Precedes Restart (Extension k l) = Unit {0}
Precedes Restart Restart = ⊥
Precedes Restart Malformed = ⊥
Precedes (Extension i j) (Reduction k) = ⊥
Precedes (Extension i j) (Extension k l) = (i < k) ⊎ ((i ≡ k) × (j < l))
Precedes (Extension i j) Restart = ⊥
Precedes (Extension i j) Malformed = ⊥
Precedes Malformed s = ⊥

-- one list of steps comes before another: at the first step that differs
pub data Before : List Step → List Step → Type 0 where
  at_once : {s t : Step} {ss ts : List Step} → Precedes s t → Before (s ∷ ss) (t ∷ ts)
  later : {s : Step} {ss ts : List Step} → Before ss ts → Before (s ∷ ss) (s ∷ ts)

-- the first closed tableau in the stated order: every other comes after it
abbrev pub First : Setting → List Step → Type 0
First S steps = Closed S steps × ((other : List Step) → Closed S other → (other ≡ steps) ⊎ Before steps other)

-- the reductions of a leaf against its branch, from this height on
unfoldable pub reductions : Literal Variable → ℕ → List (Literal Variable) → List Step
reductions leaf height [] = []
reductions leaf height (m ∷ branch) =
    cond (fits leaf m) (Reduction height ∷ reductions leaf (suc height) branch) (reductions leaf (suc height) branch)

-- the extensions of a leaf into one clause, from this literal on
unfoldable pub entries : Literal Variable → ℕ → ℕ → List (Literal Variable) → List Step
entries leaf clause literal [] = []
entries leaf clause literal (m ∷ copy) =
    cond (fits leaf m) (Extension clause literal ∷ entries leaf clause (suc literal) copy) (entries leaf clause (suc literal) copy)

-- the extensions of a leaf into copies of the clauses, from this clause on
unfoldable pub extensions : Literal Variable → ℕ → ℕ → List Clause → List Step
extensions leaf copy clause [] = []
extensions leaf copy clause (c ∷ cs) = entries leaf clause 0 (copy_of copy c) ++ extensions leaf copy (suc clause) cs

-- the candidates of the leftmost open leaf; neither restart nor extensions are once the bound's are used
unfoldable pub candidates_at : Setting → ℕ → List Leaf → List Step
candidates_at S used [] = []
candidates_at S used (leaf ∷ rest) =
    reductions leaf.literal 1 leaf.branch
    ++ (cond (may_restart S used leaf) (Restart ∷ []) []
    ++ cond (may_extend S used leaf) (extensions leaf.literal (suc used) 0 (all_clauses S.table)) [])

unfoldable pub candidates : Setting → Tableau → List Step
candidates S x = candidates_at S x.extensions x.leaves

-- no leaf is open
unfoldable pub all_closed : List Leaf → Bool
all_closed [] = true
all_closed (leaf ∷ rest) = false

-- The tableaux in the stated order: a candidate leads on if its pair unifies with what is already bound, and fails if not; a restart has no pair.
abbrev pub stated : Setting → System
stated S =
    record {
      State = Tableau;
      Move = Step;
      done = λ x. all_closed x.leaves;
      moves = λ x. candidates S x;
      leads = λ x s y. (stepped S x s ≡ some y) × Unifiable y.pairs;
      fails = λ x s. (y : Tableau) × (stepped S x s ≡ some y) × (¬ Unifiable y.pairs);
    }

-- how the search ends: with the steps found, or with none
abbrev pub Ending : Type 0
Ending = System.Ending Step

-- The search in the stated order from a tableau ends so, after so many tries. A candidate is one try whether or not it unifies
-- with what is already bound; on failure the search takes the next candidate of the latest leaf that has one.
abbrev pub Searched : Setting → Tableau → Ending → ℕ → Type 0
Searched S x e n = System.Searched (stated S) x e n
