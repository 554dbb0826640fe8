-- What education sees of a table (document 02, order 8): it passes over restricted clauses and numbers the others from 0. The question stays: a
-- restricted question is refused (status 21).
use Rattle.std.specs.Prelude.{cond, List, [], ◌∷◌}
use Rattle.table.specs.Syntax.{Clause, Table}

-- the clauses that are not restricted, in their order
unfoldable pub unrestricted_of : List Clause → List Clause
unrestricted_of [] = []
unrestricted_of (c ∷ cs) = cond c.restricted (unrestricted_of cs) (c ∷ unrestricted_of cs)

-- the table without restricted clauses
unfoldable pub unrestricted : Table → Table
unrestricted t = record { clauses = unrestricted_of t.clauses; question = t.question }
