use Rattle.std.proofs.Common.{◌<◌, ◌^◌, length, arith, rules}
use Rattle.requests.proofs.Pairs.{twice_fits}
use Rattle.requests.proofs.Rows.{mark_fits, bytes_none, no_bytes, bytes_within, more_than_bytes, too_many_bytes, bytes_read}
use Rattle.requests.proofs.request.bytes.Goals as goal
use Rattle.requests.proofs.request.bytes.Goals.{then-count-eq0-via-then-count-eq0, then-count-eq0-via-else-count-eq0+then-long-count, then-count-eq0-via-else-count-eq0+else-long-count+then-room-count}

pub overflow_add-result : goal.overflow_add-result
overflow_add-result c = mark_fits c.args.line.now c.args.at _ c.is.ensures c.if-is.true (search rules)

pub returns-then-is : goal.returns-then-is
returns-then-is c = bytes_none c.args.room c.args.line.now c.args.at c.is.ensures c.if-is.true

pub overflow_mul-count : goal.overflow_mul-count
overflow_mul-count c = twice_fits c.args.line.now c.args.at c.count-count.ensures (search rules)

pub returns-then-count-eq0 : goal.returns-then-count-eq0
returns-then-count-eq0 c =
    let a = c.args in
    elim c.then-count-eq0.branch [
      | then-count-eq0-via-then-count-eq0 w ↦ no_bytes a.room a.line.now a.at c.is.ensures c.if-is.false c.count-count.ensures c.piece-long.ensures w.if-count-eq0.true
      | then-count-eq0-via-else-count-eq0+then-long-count w ↦
          more_than_bytes a.room a.line.now a.at c.is.ensures c.if-is.false c.count-count.ensures c.piece-long.ensures w.if-count-eq0.false w.if-long-count.true
      | then-count-eq0-via-else-count-eq0+else-long-count+then-room-count w ↦
          too_many_bytes a.room a.line.now a.at c.is.ensures c.if-is.false c.count-count.ensures c.piece-long.ensures w.if-count-eq0.false w.if-long-count.false w.if-room-count.true
    ]

pub overflow_add-result-2 : goal.overflow_add-result-2
overflow_add-result-2 c =
    let a = c.args in
    let short : length a.line.now < 2 ^ 63 = search rules in
    record { fits = omega (arith, short, bytes_within a.room a.line.now a.at c.is.ensures c.if-is.false c.count-count.ensures c.piece-long.ensures c.if-count-eq0.false c.if-long-count.false) }

pub overflow_add-result-3 : goal.overflow_add-result-3
overflow_add-result-3 c =
    let a = c.args in
    let short : length a.line.now < 2 ^ 63 = search rules in
    record { fits = omega (arith, short, bytes_within a.room a.line.now a.at c.is.ensures c.if-is.false c.count-count.ensures c.piece-long.ensures c.if-count-eq0.false c.if-long-count.false) }

pub returns : goal.returns
returns c =
    let a = c.args in
    bytes_read a.room a.line.now a.at c.is.ensures c.if-is.false c.count-count.ensures c.piece-long.ensures c.if-count-eq0.false c.if-long-count.false c.if-room-count.false
