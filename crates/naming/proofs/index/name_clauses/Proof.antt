use mathlib.Core.Path.{refl}
use Rattle.naming.proofs.ClauseIndex.{clauses_named}
use borrow.Author.Rules.{rules}
use Rattle.naming.proofs.index.name_clauses.Statement.{statement}
use Rattle.naming.proofs.index.name_clauses.Tie as tie

-- src/index.rt:79:18
cast-clear : tie.Need-overflow_cast-text
cast-clear c = search rules

-- src/index.rt:79:5
clear-requires : tie.Need-clear-requires
clear-requires c κs = search rules

-- src/index.rt:80:9
put-names-requires : tie.Need-put_names-stated-requires
put-names-requires c κs = search rules

-- src/index.rt:81:9
put-names-requires-2 : tie.Need-put_names-all-requires
put-names-requires-2 c κs = search rules

-- src/index.rt:75:1
same_length : tie.Need-shape_of-names
same_length c = search rules

-- src/index.rt:75:1
returns : tie.Need-returns
returns c = clauses_named c.args.text.now refl c.args.names.now c.clear.ensures c.requires.2 c.put_names-stated.ensures c.put_names-all.ensures

pub name_clauses_spec : {M : Type 1} → statement M
name_clauses_spec =
    tie.close
    (tie.spec
    cast-clear
    clear-requires
    put-names-requires
    put-names-requires-2
    same_length
    returns)
