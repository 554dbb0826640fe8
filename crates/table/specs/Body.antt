-- The body of a question file (document 01): clauses back to back. The walks over it count the words still to pass of the clause that they are in.
use Rattle.std.specs.Prelude.{Bool, false, not, ◌&&◌, ◌||◌, List, [], ◌∷◌, ℕ, zero, suc, ◌+◌, eqb}
use Rattle.std.proofs.Math.Option.{Option, none, some}
use Rattle.words.specs.Fields.{kind_of, negative_of, following_of}
use Rattle.table.specs.Reading.{clause_fault}

-- a malformed clause ends the reading at once with its place
unfoldable pub reading : Option ℕ → ℕ → (Unit {0} → Option ℕ) → Option ℕ
reading (some fault) at further = some (at + fault)
reading none at further = further tt

unfoldable pub body_fault : ℕ → ℕ → List ℕ → Option ℕ
body_fault at passing [] = none
body_fault at (suc passing) (w ∷ ws) = body_fault (at + 1) passing ws
body_fault at zero (w ∷ ws) = reading (clause_fault w ws) at (λ _. body_fault (at + 1) (following_of w) ws)

-- where the clauses begin
unfoldable pub starts : ℕ → ℕ → List ℕ → List ℕ
starts at passing [] = []
starts at (suc passing) (w ∷ ws) = starts (at + 1) passing ws
starts at zero (w ∷ ws) = at ∷ starts (at + 1) (following_of w) ws

unfoldable pub last_of : ℕ → List ℕ → ℕ
last_of other [] = other
last_of other (x ∷ xs) = last_of x xs

-- a positive literal among words
abbrev pub positive : ℕ → Bool
positive w = eqb (kind_of w) 2 && not (negative_of w)

unfoldable pub any_positive : List ℕ → Bool
any_positive [] = false
any_positive (w ∷ ws) = positive w || any_positive ws
