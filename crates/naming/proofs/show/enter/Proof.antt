use borrow.Author.Rules.{rules}
use Rattle.naming.proofs.Showing.{open_laws}
use Rattle.naming.proofs.show.enter.Statement.{statement}
use Rattle.naming.proofs.show.enter.Tie as tie

ruleset all = (rules, open_laws)

-- src/show.rt:49:9
leave-requires : tie.Need-leave-requires
leave-requires c κs = search rules

-- src/show.rt:49:9
same_length : tie.Need-shape_of-left-then-arity-eq0
same_length c = search rules

-- src/show.rt:49:9
same-length-2 : tie.Need-shape_of-out-then-arity-eq0
same-length-2 c = search rules

-- src/show.rt:49:9
returns : tie.Need-returns-then-arity-eq0
returns c = search all

-- src/show.rt:51:19
sub-left : tie.Need-overflow_sub-left
sub-left c = search rules

-- src/show.rt:51:5
mul_left : tie.Need-offset_bounds-left-depth
mul_left c = search rules

-- src/show.rt:51:5
slice-write-left : tie.Need-bounds-left-depth
slice-write-left c = search rules

-- src/show.rt:52:9
byte-requires : tie.Need-byte-byte-requires
byte-requires c κs = search rules

-- src/show.rt:54:16
add-t13 : tie.Need-overflow_add-result
add-t13 c = search rules

-- src/show.rt:44:1
same-length-3 : tie.Need-shape_of-left
same-length-3 c = search rules

-- src/show.rt:44:1
same-length-4 : tie.Need-shape_of-out
same-length-4 c = search rules

-- src/show.rt:44:1
returns-2 : tie.Need-returns
returns-2 c = search all

pub enter_spec : {M : Type 1} → statement M
enter_spec =
    tie.close
    (tie.spec
    leave-requires
    same_length
    same-length-2
    returns
    sub-left
    mul_left
    slice-write-left
    byte-requires
    add-t13
    same-length-3
    same-length-4
    returns-2)
