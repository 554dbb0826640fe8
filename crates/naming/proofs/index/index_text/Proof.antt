use mathlib.Core.Path.{refl}
use Rattle.tptp.proofs.Calling.{empty_memory}
use Rattle.naming.proofs.Indexing.{gathered_even, gathered_held, cleared_unnamed}
use Rattle.naming.proofs.ClauseIndex.{unindexed, listed_so, never_unlisted}
use borrow.Author.Rules.{rules}
use Rattle.naming.proofs.index.index_text.Statement.{statement}
use Rattle.naming.proofs.index.index_text.Tie as tie

-- src/index.rt:101:18
cast-clear : tie.Need-overflow_cast-text
cast-clear c = search rules

-- src/index.rt:101:5
clear-requires : tie.Need-clear-requires
clear-requires c κs = search rules

-- src/index.rt:102:30
bounds-gather : tie.Need-slice_bounds-gather-end
bounds-gather c = search rules

-- src/index.rt:102:42
bounds-gather-2 : tie.Need-slice_bounds-gather-end-2
bounds-gather-2 c = search rules

-- src/index.rt:102:55
bounds-gather-3 : tie.Need-slice_bounds-gather-end-3
bounds-gather-3 c = search rules

-- src/index.rt:102:9
gather-requires : tie.Need-gather-count-requires
gather-requires c κs = let pre = c.requires in (pre.0, pre.1, empty_memory)

-- src/index.rt:103:27
sub-index-items : tie.Need-slice_bounds-index_items-count
sub-index-items c = search rules

-- src/index.rt:103:27
part-index-items-start : tie.Need-slice_bounds-index_items-start
part-index-items-start c = search rules

-- src/index.rt:103:27
part-index-items-end : tie.Need-slice_bounds-index_items-end
part-index-items-end c = search rules

-- src/index.rt:103:45
sub-index-items-2 : tie.Need-slice_bounds-index_items-count-2
sub-index-items-2 c = search rules

-- src/index.rt:103:45
part-index-items-start-2 : tie.Need-slice_bounds-index_items-start-2
part-index-items-start-2 c = search rules

-- src/index.rt:103:45
part-index-items-end-2 : tie.Need-slice_bounds-index_items-end-2
part-index-items-end-2 c = search rules

-- src/index.rt:103:9
index-items-requires : tie.Need-index_items-requires
index-items-requires c κs = let g = c.gather-count.ensures in (gathered_even g, gathered_held g, cleared_unnamed c.args.text.now c.args.index.now refl c.requires.2 c.clear.ensures)

-- src/index.rt:104:9
same_length : tie.Need-shape_of-index-then-not-index_items
same_length c = search rules

-- src/index.rt:104:9
returns : tie.Need-returns-then-not-index_items
returns c = let listed = c.index_items.ensures in unindexed listed.long (never_unlisted listed c.if-not-index_items.true)

-- src/index.rt:106:5
index-clauses-requires : tie.Need-index_clauses-requires
index-clauses-requires c κs = let pre = c.requires in (pre.0, pre.1, listed_so c.index_items.ensures c.if-not-index_items.false)

-- src/index.rt:94:1
same-length-2 : tie.Need-shape_of-index
same-length-2 c = search rules

-- src/index.rt:94:1
returns-2 : tie.Need-returns
returns-2 c = search rules

pub index_text_spec : {M : Type 1} → statement M
index_text_spec =
    tie.close
    (tie.spec
    cast-clear
    clear-requires
    bounds-gather
    bounds-gather-2
    bounds-gather-3
    gather-requires
    sub-index-items
    part-index-items-start
    part-index-items-end
    sub-index-items-2
    part-index-items-start-2
    part-index-items-end-2
    index-items-requires
    same_length
    returns
    index-clauses-requires
    same-length-2
    returns-2)
