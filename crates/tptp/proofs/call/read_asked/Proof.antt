use Rattle.tptp.proofs.Calling.{asked_laws}
use borrow.Author.Rules.{rules}
use Rattle.tptp.proofs.call.read_asked.Statement.{statement}
use Rattle.tptp.proofs.call.read_asked.Tie as tie

ruleset all = (rules, asked_laws)

slice-aggregate-gather : tie.Need-slice_bounds-gather-end
slice-aggregate-gather c = search all

slice-aggregate-gather-2 : tie.Need-slice_bounds-gather-end-2
slice-aggregate-gather-2 c = search all

slice-aggregate-gather-3 : tie.Need-slice_bounds-gather-end-3
slice-aggregate-gather-3 c = search all

gather-requires : tie.Need-gather-count-requires
gather-requires c κs = search all

sub-read-items : tie.Need-slice_bounds-read_items-count
sub-read-items c = search all

part-read-items-start : tie.Need-slice_bounds-read_items-start
part-read-items-start c = search all

part-read-items-end : tie.Need-slice_bounds-read_items-end
part-read-items-end c = search all

sub-read-items-2 : tie.Need-slice_bounds-read_items-count-2
sub-read-items-2 c = search all

part-read-items-start-2 : tie.Need-slice_bounds-read_items-start-2
part-read-items-start-2 c = search all

part-read-items-end-2 : tie.Need-slice_bounds-read_items-end-2
part-read-items-end-2 c = search all

read-items-requires : tie.Need-read_items-requires
read-items-requires c κs = search all

same_length : tie.Need-shape_of-file
same_length c = search all

returns : tie.Need-returns
returns c = search all

pub read_asked_spec : {M : Type 1} → statement M
read_asked_spec =
    tie.close
    (tie.spec
    slice-aggregate-gather
    slice-aggregate-gather-2
    slice-aggregate-gather-3
    gather-requires
    sub-read-items
    part-read-items-start
    part-read-items-end
    sub-read-items-2
    part-read-items-start-2
    part-read-items-end-2
    read-items-requires
    same_length
    returns)
