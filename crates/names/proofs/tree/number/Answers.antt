use Rattle.std.proofs.Common.{◌<◌, length, arith}
use Rattle.names.proofs.Using.{using_few, using_room, using_other, using_over, using_this, using_end}
use Rattle.names.proofs.tree.number.Goals as goal

pub loop-i-preserved-then-kind : goal.loop-i-preserved-then-kind
loop-i-preserved-then-kind c =
    let inv = c.loop-i.invariant in
    let even = c.requires.starts_len.0 in
    using_other even inv (omega (arith, c.loop-i-test.true, even, inv.numbers.long)) c.kind.ensures c.if-kind.true

pub note-used-requires : goal.note-used-requires
note-used-requires c =
    let inv = c.loop-i.invariant in
    let even = c.requires.starts_len.0 in
    let here : c.loop-i.i < length c.loop-i.words = omega (arith, c.loop-i-test.true, even, inv.numbers.long) in
    (inv.tree, using_room even inv here c.kind.ensures c.if-kind.false c.wide.ensures, using_few even inv c.requires.starts_len.2)

pub returns-then-limit-n : goal.returns-then-limit-n
returns-then-limit-n c =
    let inv = c.loop-i.invariant in
    let even = c.requires.starts_len.0 in
    let here : c.loop-i.i < length c.loop-i.words = omega (arith, c.loop-i-test.true, even, inv.numbers.long) in
    using_over even inv here c.kind.ensures c.if-kind.false c.wide.ensures c.note-used.ensures c.if-limit-n.true

pub loop-i-preserved : goal.loop-i-preserved
loop-i-preserved c =
    let inv = c.loop-i.invariant in
    let even = c.requires.starts_len.0 in
    let here : c.loop-i.i < length c.loop-i.words = omega (arith, c.loop-i-test.true, even, inv.numbers.long) in
    using_this even inv here c.kind.ensures c.if-kind.false c.wide.ensures c.note-used.ensures c.if-limit-n.false
    c.with_number.ensures c.grown-count.ensures

pub returns : goal.returns
returns c =
    let inv = c.loop-i.invariant in
    let even = c.requires.starts_len.0 in
    using_end even inv (omega (arith, c.loop-i-test.false, even, inv.numbers.long))
