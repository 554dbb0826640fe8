use Rattle.tptp.proofs.Adding.{added}
use borrow.Author.Rules.{rules}
use Rattle.tptp.proofs.sketch.add.Statement.{statement}
use Rattle.tptp.proofs.sketch.add.Tie as tie

ruleset all = (rules, added)

add-part-requires : tie.Need-add_part-requires
add-part-requires c κs = search all

mul-marks : tie.Need-offset_bounds-marks-count
mul-marks c = search all

slice-write-marks : tie.Need-bounds-marks-count
slice-write-marks c = search all

mul-places : tie.Need-offset_bounds-places-count
mul-places c = search all

slice-write-places : tie.Need-bounds-places-count
slice-write-places c = search all

add-t12 : tie.Need-overflow_add-result
add-t12 c = search all

same_length : tie.Need-shape_of-marks
same_length c = search all

same-length-2 : tie.Need-shape_of-places
same-length-2 c = search all

returns : tie.Need-returns
returns c = search all

pub add_spec : {M : Type 1} → statement M
add_spec =
    tie.close
    (tie.spec
    add-part-requires
    mul-marks
    slice-write-marks
    mul-places
    slice-write-places
    add-t12
    same_length
    same-length-2
    returns)
