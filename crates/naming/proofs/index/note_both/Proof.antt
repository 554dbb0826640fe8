use Rattle.naming.proofs.Indexing.{both_noted}
use borrow.Author.Rules.{rules}
use Rattle.naming.proofs.index.note_both.Statement.{statement}
use Rattle.naming.proofs.index.note_both.Tie as tie

-- src/index.rt:31:28
sub-note : tie.Need-slice_bounds-note-count
sub-note c = search rules

-- src/index.rt:31:28
part-note-start : tie.Need-slice_bounds-note-start
part-note-start c = search rules

-- src/index.rt:31:28
part-note-end : tie.Need-slice_bounds-note-end
part-note-end c = search rules

-- src/index.rt:31:5
note-requires : tie.Need-note-requires
note-requires c κs = search rules

-- src/index.rt:32:28
sub-note-2 : tie.Need-slice_bounds-note-count-2
sub-note-2 c = search rules

-- src/index.rt:32:28
part-note-start-2 : tie.Need-slice_bounds-note-start-2
part-note-start-2 c = search rules

-- src/index.rt:32:28
part-note-end-2 : tie.Need-slice_bounds-note-end-2
part-note-end-2 c = search rules

-- src/index.rt:32:5
note-requires-2 : tie.Need-note-requires-2
note-requires-2 c κs = search rules

-- src/index.rt:27:1
same_length : tie.Need-shape_of-index
same_length c = search rules

-- src/index.rt:27:1
returns : tie.Need-returns
returns c = both_noted c.requires.1 c.note.ensures c.note-2.ensures

pub note_both_spec : {M : Type 1} → statement M
note_both_spec =
    tie.close
    (tie.spec
    sub-note
    part-note-start
    part-note-end
    note-requires
    sub-note-2
    part-note-start-2
    part-note-end-2
    note-requires-2
    same_length
    returns)
