use Rattle.tptp.proofs.Finishing.{finish_laws}
use borrow.Author.Rules.{rules}
use Rattle.tptp.proofs.last.finish.Statement.{statement}
use Rattle.tptp.proofs.last.finish.Tie as tie

ruleset all = (rules, finish_laws)

make-requires : tie.Need-make-requires
make-requires c κs = search all

refused-requires : tie.Need-refused-requires
refused-requires c κs = search all

same_length : tie.Need-shape_of-words-then-not-make
same_length c = search all

returns : tie.Need-returns-then-not-make
returns c = search all

seek-requires : tie.Need-seek-at-requires
seek-requires c κs = search all

add-seek : tie.Need-overflow_add-at
add-seek c = search all

seek-requires-2 : tie.Need-seek-end-requires
seek-requires-2 c κs = search all

add-seek-2 : tie.Need-overflow_add-at-2
add-seek-2 c = search all

seek-requires-3 : tie.Need-seek-requires
seek-requires-3 c κs = search all

refused-requires-2 : tie.Need-refused-requires-then-seek-end
refused-requires-2 c κs = search all

same-length-2 : tie.Need-shape_of-words-then-seek-end
same-length-2 c = search all

returns-2 : tie.Need-returns-then-seek-end
returns-2 c = search all

write-requires : tie.Need-write-requires
write-requires c κs = search all

cast-t20 : tie.Need-overflow_cast-result
cast-t20 c = search all

add-t21 : tie.Need-overflow_add-result
add-t21 c = search all

same-length-3 : tie.Need-shape_of-words
same-length-3 c = search all

same-length-4 : tie.Need-shape_of-file
same-length-4 c = search all

returns-3 : tie.Need-returns
returns-3 c = search all

pub finish_spec : {M : Type 1} → statement M
finish_spec =
    tie.close
    (tie.spec
    make-requires
    refused-requires
    same_length
    returns
    seek-requires
    add-seek
    seek-requires-2
    add-seek-2
    seek-requires-3
    refused-requires-2
    same-length-2
    returns-2
    write-requires
    cast-t20
    add-t21
    same-length-3
    same-length-4
    returns-3)
