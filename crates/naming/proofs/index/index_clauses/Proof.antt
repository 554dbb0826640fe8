use Rattle.naming.proofs.ClauseIndex.{all_indexed}
use borrow.Author.Rules.{rules}
use Rattle.naming.proofs.index.index_clauses.Statement.{statement}
use Rattle.naming.proofs.index.index_clauses.Tie as tie

-- src/index.rt:90:24
sub-name-clauses : tie.Need-slice_bounds-name_clauses-count
sub-name-clauses c = search rules

-- src/index.rt:90:24
part-name-clauses-start : tie.Need-slice_bounds-name_clauses-start
part-name-clauses-start c = search rules

-- src/index.rt:90:24
part-name-clauses-end : tie.Need-slice_bounds-name_clauses-end
part-name-clauses-end c = search rules

-- src/index.rt:90:5
name-clauses-requires : tie.Need-name_clauses-requires
name-clauses-requires c κs = search rules

-- src/index.rt:86:1
same_length : tie.Need-shape_of-index
same_length c = search rules

-- src/index.rt:86:1
returns : tie.Need-returns
returns c = all_indexed c.requires.2 c.name_clauses.ensures

pub index_clauses_spec : {M : Type 1} → statement M
index_clauses_spec =
    tie.close
    (tie.spec
    sub-name-clauses
    part-name-clauses-start
    part-name-clauses-end
    name-clauses-requires
    same_length
    returns)
