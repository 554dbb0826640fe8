use Rattle.tptp.proofs.Written.{write_done}
use borrow.Author.Rules.{rules}
use Rattle.tptp.proofs.last.write.Statement.{statement}
use Rattle.tptp.proofs.last.write.Tie as tie

ruleset all = (rules, write_done)

sub-question : tie.Need-overflow_sub-question
sub-question c = search all

add-question : tie.Need-overflow_add-question
add-question c = search all

sub-append : tie.Need-slice_bounds-append-count
sub-append c = search all

part-append-start : tie.Need-slice_bounds-append-start
part-append-start c = search all

part-append-end : tie.Need-slice_bounds-append-end
part-append-end c = search all

append-requires : tie.Need-append-requires
append-requires c κs = search all

mul-append : tie.Need-offset_bounds-words-end
mul-append c = search all

sub-append-2 : tie.Need-slice_bounds-append-count-2
sub-append-2 c = search all

part-append-start-2 : tie.Need-slice_bounds-append-start-2
part-append-start-2 c = search all

part-append-end-2 : tie.Need-slice_bounds-append-end-2
part-append-end-2 c = search all

append-requires-2 : tie.Need-append-requires-2
append-requires-2 c κs = search all

mul-append-2 : tie.Need-offset_bounds-words-at
mul-append-2 c = search all

sub-append-3 : tie.Need-slice_bounds-append-count-3
sub-append-3 c = search all

part-append-start-3 : tie.Need-slice_bounds-append-start-3
part-append-start-3 c = search all

part-append-end-3 : tie.Need-slice_bounds-append-end-3
part-append-end-3 c = search all

append-requires-3 : tie.Need-append-requires-3
append-requires-3 c κs = search all

seal-requires : tie.Need-seal-requires
seal-requires c κs = search all

same_length : tie.Need-shape_of-file
same_length c = search all

returns : tie.Need-returns
returns c =
    write_done c.requires c.append.ensures c.append-2.ensures c.append-3.ensures c.seal.ensures

pub write_spec : {M : Type 1} → statement M
write_spec =
    tie.close
    (tie.spec
    sub-question
    add-question
    sub-append
    part-append-start
    part-append-end
    append-requires
    mul-append
    sub-append-2
    part-append-start-2
    part-append-end-2
    append-requires-2
    mul-append-2
    sub-append-3
    part-append-start-3
    part-append-end-3
    append-requires-3
    seal-requires
    same_length
    returns)
