-- Order 7 (document 02): the lines of a listing.
use Rattle.std.specs.Prelude.{Bool, true, false, List, [], ◌∷◌, ◌++◌, ℕ}
use Rattle.words.specs.declared.Step.{Step}
use Rattle.table.specs.Syntax.{Table}
use Rattle.text.specs.Quoted.{bytes}
use Rattle.text.specs.Digits.{decimal_text}
use Rattle.clauselines.specs.Lines.{clause_text}
use Rattle.listing.specs.Behind.{Listed, copied, asked}

-- A line holds the clause's number, a space, the number of its copies, a space, and the clause in the text of order 2, which ends in LF.
unfoldable pub line_text : Bool → Listed → List ℕ
line_text question l =
    decimal_text l.number ++ bytes " " ++ decimal_text l.copies ++ bytes " " ++ clause_text l.number question l.clause

-- lines of clauses before the question
unfoldable pub lines_text : List Listed → List ℕ
lines_text [] = []
lines_text (l ∷ ls) = line_text false l ++ lines_text ls

-- the question's line is the last
unfoldable pub listing_text : Table → List Step → List ℕ
listing_text t steps = lines_text (copied t steps) ++ line_text true (asked t steps)
