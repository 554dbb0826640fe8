use Rattle.tptp.proofs.Spans.{part_numbered}
use borrow.Author.Rules.{rules}
use Rattle.tptp.proofs.body.number_variables.Statement.{statement}
use Rattle.tptp.proofs.body.number_variables.Tie as tie

ruleset all = (rules, part_numbered)

mul-number : tie.Need-offset_bounds-places-from
mul-number c = search all

sub_number : tie.Need-slice_bounds-number-count
sub_number c = search all

part-number-start : tie.Need-slice_bounds-number-start
part-number-start c = search all

part-number-end : tie.Need-slice_bounds-number-end
part-number-end c = search all

mul-number-2 : tie.Need-offset_bounds-words-from
mul-number-2 c = search all

sub-number-2 : tie.Need-slice_bounds-number-count-2
sub-number-2 c = search all

part-number-start-2 : tie.Need-slice_bounds-number-start-2
part-number-start-2 c = search all

part-number-end-2 : tie.Need-slice_bounds-number-end-2
part-number-end-2 c = search all

number-requires : tie.Need-number-requires
number-requires c κs = search all

same_length : tie.Need-shape_of-words
same_length c = search all

returns : tie.Need-returns
returns c = part_numbered (search rules) (search rules) (search rules) c.number.ensures

pub number_variables_spec : {M : Type 1} → statement M
number_variables_spec =
    tie.close
    (tie.spec
    mul-number
    sub_number
    part-number-start
    part-number-end
    mul-number-2
    sub-number-2
    part-number-start-2
    part-number-end-2
    number-requires
    same_length
    returns)
