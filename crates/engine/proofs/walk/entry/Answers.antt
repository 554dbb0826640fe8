use Rattle.std.proofs.Common.{arith}
use Rattle.engine.proofs.Checker.Walks.{walk_most, walk_asks, walk_inside, walk_short, walk_some, walk_fits, walk_found}
use Rattle.engine.proofs.walk.entry.Goals as goal

pub start_of-start-requires : goal.start_of-start-requires
start_of-start-requires c = walk_asks c.args.file.now c.requires.0 c.args.clause c.args.literal c.if-file-end.false c.wide.ensures

pub returns-then-literals-literal : goal.returns-then-literals-literal
returns-then-literals-literal c = walk_short c.args.file.now c.requires.0 c.args.clause c.args.literal c.if-file-end.false c.wide.ensures c.start_of-start.ensures c.literals.ensures c.if-literals-literal.true

pub offset_of-offset-requires : goal.offset_of-offset-requires
offset_of-offset-requires c = walk_some c.args.file.now c.requires.0 c.args.clause c.args.literal c.if-file-end.false c.wide.ensures c.start_of-start.ensures c.literals.ensures c.if-literals-literal.false

pub overflow_cast-begin : goal.overflow_cast-begin
overflow_cast-begin c = omega (arith, walk_inside c.args.file.now c.requires.0 c.args.clause c.args.literal c.if-file-end.false c.wide.ensures c.start_of-start.ensures, walk_most c.args.file.now c.requires.0)

pub overflow_add-result : goal.overflow_add-result
overflow_add-result c = omega (arith, walk_fits c.args.file.now c.requires.0 c.args.clause c.args.literal c.if-file-end.false c.wide.ensures c.start_of-start.ensures c.literals.ensures c.if-literals-literal.false c.offset_of-offset.ensures, walk_most c.args.file.now c.requires.0)

pub returns : goal.returns
returns c = walk_found c.args.file.now c.requires.0 c.args.clause c.args.literal c.if-file-end.false c.wide.ensures c.start_of-start.ensures c.literals.ensures c.if-literals-literal.false c.offset_of-offset.ensures
