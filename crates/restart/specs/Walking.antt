-- Machinery: the same found by a walk over the words of a body, which counts the words still to pass of the clause that it is in.
use Rattle.std.specs.Prelude.{cond, List, [], ◌∷◌, ℕ, zero, suc, ◌+◌, eqb, take}
use Rattle.std.proofs.Math.Option.{Option, none, some}
use Rattle.words.specs.Fields.{following_of}
use Rattle.table.specs.Body.{any_positive}
use Rattle.std.specs.Prelude as Prelude

unfoldable pub unconcluded : ℕ → ℕ → ℕ → List ℕ → Option ℕ
unconcluded question at passing [] = none
unconcluded question at (suc passing) (w ∷ ws) = unconcluded question (at + 1) passing ws
unconcluded question at zero (w ∷ ws) =
    cond (eqb at question) none
    (cond (any_positive (take (following_of w) ws)) (unconcluded question (at + 1) (following_of w) ws) (some at))

-- as the code has it
abbrev pub conclusions_of : Option ℕ → Prelude.Option ℕ
conclusions_of none = Prelude.None
conclusions_of (some place) = Prelude.Some place
