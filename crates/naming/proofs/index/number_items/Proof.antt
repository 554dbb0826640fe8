use Rattle.tptp.proofs.Making.{shapes_over, functions_over, predicates_over, all_numbered}
use Rattle.naming.proofs.Indexing.{unlisted, over_limits, all_listed}
use borrow.Author.Rules.{rules}
use Rattle.naming.proofs.index.number_items.Statement.{statement}
use Rattle.naming.proofs.index.number_items.Tie as tie

-- src/index.rt:47:9
shapes-requires : tie.Need-shapes-requires
shapes-requires c κs = search rules

-- src/index.rt:48:9
same_length : tie.Need-shape_of-words-then-not-shapes
same_length c = search rules

-- src/index.rt:48:9
returns : tie.Need-returns-then-not-shapes
returns c = let start = c in unlisted start.requires.1.long (over_limits (shapes_over start.args.words.now start.requires.0.0 start.requires.0.1 start.requires.0.2 c.shapes.ensures c.if-not-shapes.true))

-- src/index.rt:50:15
number-requires : tie.Need-number-requires
number-requires c κs = search rules

-- src/index.rt:51:9
same-length-2 : tie.Need-shape_of-words-then-number-gt4096
same-length-2 c = search rules

-- src/index.rt:51:9
returns-2 : tie.Need-returns-then-number-gt4096
returns-2 c = let start = c in unlisted start.requires.1.long (over_limits (functions_over start.args.words.now start.requires.0.0 start.requires.0.1 start.requires.0.2 c.shapes.ensures c.if-not-shapes.false c.number.ensures c.if-number-gt4096.true))

-- src/index.rt:53:15
number-requires-2 : tie.Need-number-requires-2
number-requires-2 c κs = search rules

-- src/index.rt:54:9
same-length-3 : tie.Need-shape_of-words-then-number-gt4096-2
same-length-3 c = search rules

-- src/index.rt:54:9
returns-3 : tie.Need-returns-then-number-gt4096-2
returns-3 c = let start = c in unlisted start.requires.1.long (over_limits (predicates_over start.args.words.now start.requires.0.0 start.requires.0.1 start.requires.0.2 c.shapes.ensures c.if-not-shapes.false c.number.ensures c.if-number-gt4096.false c.number-2.ensures c.if-number-gt4096-2.true))

-- src/index.rt:56:5
note-both-requires : tie.Need-note_both-requires
note-both-requires c κs = search rules

-- src/index.rt:36:1
same-length-4 : tie.Need-shape_of-words
same-length-4 c = search rules

-- src/index.rt:36:1
same-length-5 : tie.Need-shape_of-index
same-length-5 c = search rules

-- src/index.rt:36:1
returns-4 : tie.Need-returns
returns-4 c = let pre = c.requires in all_listed pre.1 (all_numbered c.args.words.now pre.0.0 pre.0.1 pre.0.2 c.shapes.ensures c.if-not-shapes.false c.number.ensures c.if-number-gt4096.false c.number-2.ensures c.if-number-gt4096-2.false) c.note_both.ensures

pub number_items_spec : {M : Type 1} → statement M
number_items_spec =
    tie.close
    (tie.spec
    shapes-requires
    same_length
    returns
    number-requires
    same-length-2
    returns-2
    number-requires-2
    same-length-3
    returns-3
    note-both-requires
    same-length-4
    same-length-5
    returns-4)
