use Rattle.naming.proofs.Indexing.{unlisted, too_many, items_ready}
use borrow.Author.Rules.{rules}
use Rattle.naming.proofs.index.index_items.Statement.{statement}
use Rattle.naming.proofs.index.index_items.Tie as tie

-- src/index.rt:67:9
returns : tie.Need-returns-then-count-gt15996
returns c = let pre = c.requires in unlisted pre.2.long (too_many pre.0 pre.1 c.if-count-gt15996.true)

-- src/index.rt:70:39
sub-number-items : tie.Need-slice_bounds-number_items-count
sub-number-items c = search rules

-- src/index.rt:70:39
part-words-start : tie.Need-slice_bounds-words-start
part-words-start c = search rules

-- src/index.rt:70:39
part-words-end : tie.Need-slice_bounds-words-end
part-words-end c = search rules

-- src/index.rt:70:5
number-items-requires : tie.Need-number_items-requires
number-items-requires c κs = let pre = c.requires in items_ready pre.0 pre.1 pre.2 c.if-count-gt15996.false

-- src/index.rt:61:1
same_length : tie.Need-shape_of-index
same_length c = search rules

-- src/index.rt:61:1
returns-2 : tie.Need-returns
returns-2 c = search rules

pub index_items_spec : {M : Type 1} → statement M
index_items_spec =
    tie.close
    (tie.spec
    returns
    sub-number-items
    part-words-start
    part-words-end
    number-items-requires
    same_length
    returns-2)
