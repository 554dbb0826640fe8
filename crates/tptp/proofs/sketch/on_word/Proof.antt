use Rattle.tptp.proofs.Words.{word_laws}
use borrow.Author.Rules.{rules}
use Rattle.tptp.proofs.sketch.on_word.Statement.{statement}
use Rattle.tptp.proofs.sketch.on_word.Tie as tie

ruleset all = (rules, word_laws)

name-sort-requires : tie.Need-name_sort-sort-requires
name-sort-requires c κs = search all

add-requires : tie.Need-add-requires
add-requires c κs = search all

same_length : tie.Need-shape_of-marks-then-stage-ge6
same_length c = search all

same-length-2 : tie.Need-shape_of-places-then-stage-ge6
same-length-2 c = search all

same-length-3 : tie.Need-shape_of-inner-then-stage-ge6
same-length-3 c = search all

returns : tie.Need-returns-then-stage-ge6
returns c = search all

begin-requires : tie.Need-begin-requires
begin-requires c κs = search all

same-length-4 : tie.Need-shape_of-marks-then-stage-eq4
same-length-4 c = search all

same-length-5 : tie.Need-shape_of-places-then-stage-eq4
same-length-5 c = search all

same-length-6 : tie.Need-shape_of-inner-then-stage-eq4
same-length-6 c = search all

returns-2 : tie.Need-returns-then-stage-eq4
returns-2 c = search all

pass-requires : tie.Need-pass-requires
pass-requires c κs = search all

returns-3 : tie.Need-returns
returns-3 c = search all

pub on_word_spec : {M : Type 1} → statement M
on_word_spec =
    tie.close
    (tie.spec
    name-sort-requires
    add-requires
    same_length
    same-length-2
    same-length-3
    returns
    begin-requires
    same-length-4
    same-length-5
    same-length-6
    returns-2
    pass-requires
    returns-3)
