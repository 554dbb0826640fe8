use borrow.Author.Rules.{rules}
use Rattle.names.proofs.table.number.Statement.{statement}
use Rattle.names.proofs.table.number.Tie as tie

by-looking-requires : tie.Need-by_looking-requires
by-looking-requires c κs = search rules

same_length : tie.Need-shape_of-words-then-limit-le-FEW
same_length c = search rules

returns : tie.Need-returns-then-limit-le-FEW
returns c = search rules

fits-requires : tie.Need-fits-requires
fits-requires c κs = search rules

by-tree-requires : tie.Need-by_tree-requires
by-tree-requires c κs = (search rules, search rules, search rules, c.fits.ensures (search rules))

same-length-2 : tie.Need-shape_of-words-then-fits
same-length-2 c = search rules

returns-2 : tie.Need-returns-then-fits
returns-2 c = search rules

by-looking-requires-2 : tie.Need-by_looking-requires-2
by-looking-requires-2 c κs = search rules

same-length-3 : tie.Need-shape_of-words
same-length-3 c = search rules

returns-3 : tie.Need-returns
returns-3 c = search rules

pub number_spec : {M : Type 1} → statement M
number_spec =
    tie.close
    (tie.spec
    by-looking-requires
    same_length
    returns
    fits-requires
    by-tree-requires
    same-length-2
    returns-2
    by-looking-requires-2
    same-length-3
    returns-3)
