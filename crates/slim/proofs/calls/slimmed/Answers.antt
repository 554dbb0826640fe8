use Rattle.std.proofs.Common.{arith}
use Rattle.table.specs.File.{table_in}
use Rattle.slim.proofs.Telling.{flags_few, clauses_fit, numbers_room, file_too_long, numbers_too_many, all_told}
use Rattle.slim.proofs.calls.slimmed.Goals as goal

pub returns-then-slimmer-words : goal.returns-then-slimmer-words
returns-then-slimmer-words c =
    file_too_long (table_in c.args.asked.file.now) _ _ c.settle.ensures c.measure-size.ensures (omega arith) _ _ c.refused.ensures c.if-slimmer-words.true

pub returns-then-numbers-clauses : goal.returns-then-numbers-clauses
returns-then-numbers-clauses c =
    numbers_too_many (table_in c.args.asked.file.now) _ _ c.settle.ensures c.measure-size.ensures (omega arith) _ _ c.refused-then-numbers-clauses.ensures c.if-slimmer-words.false c.if-numbers-clauses.true

pub number-requires-clause-present_len_bound : goal.number-requires-clause-present_len_bound
number-requires-clause-present_len_bound c =
    flags_few c.args.asked.file.now c.args.asked.question _ c.args.asked.ready (omega arith)

pub number-requires-clause-present_in_bounds : goal.number-requires-clause-present_in_bounds
number-requires-clause-present_in_bounds c =
    numbers_room (table_in c.args.asked.file.now) _ _ c.settle.ensures c.measure-size.ensures (omega arith) c.args.numbers.now c.if-numbers-clauses.false

pub overflow_cast-result-2 : goal.overflow_cast-result-2
overflow_cast-result-2 c =
    clauses_fit c.args.asked.file.now c.args.asked.question _ c.args.asked.ready _ c.measure-size.ensures

pub returns : goal.returns
returns c =
    all_told (table_in c.args.asked.file.now) _ _ c.settle.ensures c.measure-size.ensures (omega arith) _ _ c.if-slimmer-words.false c.if-numbers-clauses.false c.write.ensures c.number.ensures
