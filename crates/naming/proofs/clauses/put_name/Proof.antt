use borrow.Author.Rules.{rules}
use Rattle.naming.proofs.ClauseNames.{emit_laws}
use Rattle.naming.proofs.clauses.put_name.Statement.{statement}
use Rattle.naming.proofs.clauses.put_name.Tie as tie

ruleset all = (rules, emit_laws)

-- src/clauses.rt:49:9
returns : tie.Need-returns-then-stage-ne4
returns c = search all

-- src/clauses.rt:51:8
asks-requires : tie.Need-asks-requires
asks-requires c κs = search rules

-- src/clauses.rt:53:13
word-requires : tie.Need-word-requires
word-requires c κs = search rules

-- src/clauses.rt:53:13
same_length : tie.Need-shape_of-out-then-asked
same_length c = search rules

-- src/clauses.rt:53:13
returns-2 : tie.Need-returns-then-asked
returns-2 c = search all

-- src/clauses.rt:55:9
returns-3 : tie.Need-returns-then-asks
returns-3 c = search all

-- src/clauses.rt:58:9
returns-4 : tie.Need-returns-then-asked-2
returns-4 c = search all

-- src/clauses.rt:60:5
word-requires-2 : tie.Need-word-requires-2
word-requires-2 c κs = search rules

-- src/clauses.rt:45:1
same-length-2 : tie.Need-shape_of-out
same-length-2 c = search rules

-- src/clauses.rt:45:1
returns-5 : tie.Need-returns
returns-5 c = search all

pub put_name_spec : {M : Type 1} → statement M
put_name_spec =
    tie.close
    (tie.spec
    returns
    asks-requires
    word-requires
    same_length
    returns-2
    returns-3
    returns-4
    word-requires-2
    same-length-2
    returns-5)
