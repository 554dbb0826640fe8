use Rattle.tptp.proofs.Calling.{items_laws}
use borrow.Author.Rules.{rules}
use Rattle.tptp.proofs.call.read_items.Statement.{statement}
use Rattle.tptp.proofs.call.read_items.Tie as tie

ruleset all = (rules, items_laws)

refused-requires : tie.Need-refused-requires
refused-requires c κs = search all

returns : tie.Need-returns-then-count-gt15996
returns c = search all

add-if2 : tie.Need-overflow_add-count
add-if2 c = search all

refused-requires-2 : tie.Need-refused-requires-then-file-count
refused-requires-2 c κs = search all

returns-2 : tie.Need-returns-then-file-count
returns-2 c = search all

refused-requires-3 : tie.Need-refused-requires-then-clauses-gt512
refused-requires-3 c κs = search all

returns-3 : tie.Need-returns-then-clauses-gt512
returns-3 c = search all

sub-finish : tie.Need-slice_bounds-finish-count
sub-finish c = search all

part-words-start : tie.Need-slice_bounds-words-start
part-words-start c = search all

part-words-end : tie.Need-slice_bounds-words-end
part-words-end c = search all

finish-requires : tie.Need-finish-requires
finish-requires c κs = search all

same_length : tie.Need-shape_of-file
same_length c = search all

returns-4 : tie.Need-returns
returns-4 c = search all

pub read_items_spec : {M : Type 1} → statement M
read_items_spec =
    tie.close
    (tie.spec
    refused-requires
    returns
    add-if2
    refused-requires-2
    returns-2
    refused-requires-3
    returns-3
    sub-finish
    part-words-start
    part-words-end
    finish-requires
    same_length
    returns-4)
