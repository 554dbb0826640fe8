-- Which leaf each step of a proof treats. A tableau's shape needs no unification: a step treats the leftmost open leaf, and the leaves that an extension
-- hangs there come before older ones. Steps are numbered from 1, and 0 is the start; `sizes` has the number of literals of each clause.
use Rattle.std.specs.Prelude.{cond, List, ℕ, zero, suc, ◌-◌, ltb, get_or, Option, Some, None}
use Rattle.words.specs.Steps.{step_of}
use Rattle.words.specs.declared.Step.{Step}
use Rattle.words.specs.declared.Step.TheVariants.{Reduction, Extension, Restart, Malformed}
use Rattle.leaves.specs.declared.leaf.Leaf.{Leaf}

-- how many leaves a step hangs: the literals of its clause but the one that is entered
unfoldable pub opens : List ℕ → Step → ℕ
opens sizes (Reduction height) = 0
opens sizes (Extension i j) = get_or sizes i 0 - 1
opens sizes Restart = 0
opens sizes Malformed = 0

-- the n-th literal of a clause when the one that is entered is left out
unfoldable pub other : ℕ → ℕ → ℕ
other entered n = cond (ltb n entered) n (suc n)

abbrev pub leaf_of : ℕ → ℕ → ℕ → Option Leaf
leaf_of number clause literal = Some (record { number = number; clause = clause; literal = literal })

-- the n-th leaf that the step of this number hangs: the step's number, the clause and the literal
unfoldable pub hung : ℕ → ℕ → Step → Option Leaf
hung number n (Reduction height) = None
hung number n (Extension i j) = leaf_of number i (other j n)
hung number n Restart = None
hung number n Malformed = None

-- the n-th leaf of the start: the question's literals
unfoldable pub started : List ℕ → ℕ → ℕ → Option Leaf
started sizes question n = cond (ltb n (get_or sizes question 0)) (leaf_of 0 question n) None

-- the n-th open leaf after so many of the steps, counted from the left
unfoldable pub open_after : List ℕ → ℕ → List ℕ → ℕ → ℕ → Option Leaf
open_after sizes question steps zero n = started sizes question n
open_after sizes question steps (suc done) n =
    cond (ltb n (opens sizes (step_of (get_or steps done 0)))) (hung (suc done) n (step_of (get_or steps done 0)))
    (open_after sizes question steps done (suc (n - opens sizes (step_of (get_or steps done 0)))))

-- the leftmost, which the next step treats
abbrev pub leftmost : List ℕ → ℕ → List ℕ → ℕ → Option Leaf
leftmost sizes question steps done = open_after sizes question steps done 0

-- what a copy hangs under: the leaf that was leftmost when the step hung it
unfoldable pub hung_under : List ℕ → ℕ → List ℕ → ℕ → Option Leaf
hung_under sizes question steps zero = None
hung_under sizes question steps (suc done) = leftmost sizes question steps done

unfoldable pub above : List ℕ → ℕ → List ℕ → Option Leaf → Option Leaf
above sizes question steps (Some leaf) = hung_under sizes question steps leaf.number
above sizes question steps None = None

-- the ancestor at a height: 1 is the leaf's parent
unfoldable pub ancestor : List ℕ → ℕ → List ℕ → ℕ → Option Leaf → Option Leaf
ancestor sizes question steps zero leaf = leaf
ancestor sizes question steps (suc height) leaf = ancestor sizes question steps height (above sizes question steps leaf)
