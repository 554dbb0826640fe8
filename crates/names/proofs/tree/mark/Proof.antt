use borrow.Author.Rules.{rules}
use Rattle.names.proofs.Marking.{mark_known, mark_new}
use Rattle.names.proofs.tree.mark.Statement.{statement}
use Rattle.names.proofs.tree.mark.Tie as tie

add_wide : tie.Need-overflow_add-stem
add_wide c = search rules

mul_wide : tie.Need-offset_bounds-memory-stem
mul_wide c = search rules

slice-read-wide : tie.Need-bounds-memory-stem
slice-read-wide c = search rules

wide-requires : tie.Need-wide-noted-requires
wide-requires c κs = search rules

sub-result : tie.Need-overflow_sub-result
sub-result c = search rules

returns : tie.Need-returns-then-noted-gt0
returns c = mark_known (search rules) (search rules)

cast-memory : tie.Need-overflow_cast-memory
cast-memory c = search rules

add-memory : tie.Need-overflow_add-memory
add-memory c = search rules

add-memory-2 : tie.Need-overflow_add-memory-2
add-memory-2 c = search rules

mul-memory : tie.Need-offset_bounds-memory-stem-2
mul-memory c = search rules

slice-write-memory : tie.Need-bounds-memory-stem-2
slice-write-memory c = search rules

same_length : tie.Need-shape_of-memory
same_length c = search rules

returns-2 : tie.Need-returns
returns-2 c = mark_new (search rules) (search rules)

pub mark_spec : {M : Type 1} → statement M
mark_spec =
    tie.close
    (tie.spec
    add_wide
    mul_wide
    slice-read-wide
    wide-requires
    sub-result
    returns
    cast-memory
    add-memory
    add-memory-2
    mul-memory
    slice-write-memory
    same_length
    returns-2)
