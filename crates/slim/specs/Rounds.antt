-- Machinery: the flags that order 12 leaves, by rounds. proofs/Settled.antt shows that they are the ones that `Dropping.Slim` means, and that those are one.
use Rattle.std.specs.Prelude.{length, get_or, Bool, false, not, ◌&&◌, List, [], ◌∷◌, ◌++◌, ℕ, zero, suc}
use Rattle.table.specs.Syntax.{Table}
use Rattle.slim.specs.Dropping.{remaining, clause_no, dead, repeats}

unfoldable pub flags_up_to : ℕ → (ℕ → Bool) → List Bool
flags_up_to zero f = []
flags_up_to (suc n) f = flags_up_to n f ++ (f n ∷ [])

-- the clauses that repeat no earlier one
unfoldable pub unrepeated : Table → List Bool
unrepeated t = flags_up_to (length t.clauses) (λ n. not (repeats t n))

-- a round drops every clause that is dead where so many are still present
unfoldable pub survives : Table → List Bool → ℕ → Bool
survives t present n = get_or present n false && not (dead (remaining t present) (clause_no t n))

unfoldable pub round : Table → List Bool → List Bool
round t present = flags_up_to (length t.clauses) (survives t present)

unfoldable pub rounds : Table → ℕ → List Bool → List Bool
rounds t zero present = present
rounds t (suc left) present = rounds t left (round t present)

-- as many rounds as there are clauses are enough
unfoldable pub kept_flags : Table → List Bool
kept_flags t = rounds t (length t.clauses) (unrepeated t)
