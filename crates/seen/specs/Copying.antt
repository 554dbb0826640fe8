-- What education sees of a file, and its copy. `seenIn` is what is to be believed; the rest is machinery.
use Rattle.std.specs.Prelude.{Bool, cond, not, List, [], map, ℕ, eqb}
use Rattle.table.specs.Syntax.{Clause, Table}
use Rattle.table.specs.Encode.{file_words}
use Rattle.table.specs.File.{judge, table_in}
use Rattle.table.specs.Seen.{unrestricted}

-- the table that education sees in a file
abbrev pub seen_in : List ℕ → Table
seen_in file = unrestricted (table_in file)

-- a flag for each clause before the question
abbrev pub seen_flag : Clause → Bool
seen_flag c = not c.restricted

unfoldable pub seen_flags : Table → List Bool
seen_flags t = map seen_flag t.clauses

-- the file of what is seen in an accepted file; of one that is refused nothing is copied
abbrev pub seen_file : List ℕ → List ℕ
seen_file file = file_words (seen_in file)

unfoldable pub seen_part : List ℕ → List ℕ
seen_part file = cond (eqb (judge file).status 0) (seen_file file) []
