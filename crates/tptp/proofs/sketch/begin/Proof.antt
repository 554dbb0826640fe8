use Rattle.tptp.proofs.Words.{clause_begun}
use borrow.Author.Rules.{rules}
use Rattle.tptp.proofs.sketch.begin.Statement.{statement}
use Rattle.tptp.proofs.sketch.begin.Tie as tie

ruleset all = (rules, clause_begun)

wide-requires : tie.Need-wide-requires
wide-requires c κs = search all

role-sort-requires : tie.Need-role_sort-requires
role-sort-requires c κs = search all

mul-marks : tie.Need-offset_bounds-marks-count
mul-marks c = search all

slice-write-marks : tie.Need-bounds-marks-count
slice-write-marks c = search all

mul-places : tie.Need-offset_bounds-places-count
mul-places c = search all

slice-write-places : tie.Need-bounds-places-count
slice-write-places c = search all

cast-inner : tie.Need-overflow_cast-inner
cast-inner c = search all

slice-write-inner : tie.Need-bounds-inner-0
slice-write-inner c = search all

add-t9 : tie.Need-overflow_add-result
add-t9 c = search all

same_length : tie.Need-shape_of-marks
same_length c = search all

same-length-2 : tie.Need-shape_of-places
same-length-2 c = search all

same-length-3 : tie.Need-shape_of-inner
same-length-3 c = search all

returns : tie.Need-returns
returns c = search all

pub begin_spec : {M : Type 1} → statement M
begin_spec =
    tie.close
    (tie.spec
    wide-requires
    role-sort-requires
    mul-marks
    slice-write-marks
    mul-places
    slice-write-places
    cast-inner
    slice-write-inner
    add-t9
    same_length
    same-length-2
    same-length-3
    returns)
