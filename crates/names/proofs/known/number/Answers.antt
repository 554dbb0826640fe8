use Rattle.std.proofs.Common.{arith}
use Rattle.names.proofs.Counts.{knowing_other, knowing_this, knowing_over, knowing_end}
use Rattle.names.proofs.known.number.Goals as goal

pub loop-i-preserved-then-kind : goal.loop-i-preserved-then-kind
loop-i-preserved-then-kind c =
    let inv = c.loop-i.invariant in
    let even = c.requires.0 in
    knowing_other even inv (omega (arith, c.loop-i-test.true, even, inv.numbers.long)) c.kind.ensures c.if-kind.true

pub returns-then-limit-n : goal.returns-then-limit-n
returns-then-limit-n c =
    let inv = c.loop-i.invariant in
    let even = c.requires.0 in
    knowing_over even inv (omega (arith, c.loop-i-test.true, even, inv.numbers.long)) c.kind.ensures c.if-kind.false c.note-n.ensures c.if-limit-n.true

pub loop-i-preserved : goal.loop-i-preserved
loop-i-preserved c =
    let inv = c.loop-i.invariant in
    let even = c.requires.0 in
    knowing_this even inv (omega (arith, c.loop-i-test.true, even, inv.numbers.long)) c.kind.ensures c.if-kind.false c.note-n.ensures
    c.if-limit-n.false c.with_number.ensures c.grown-count.ensures

pub returns : goal.returns
returns c =
    let inv = c.loop-i.invariant in
    knowing_end inv (omega (arith, c.loop-i-test.false, c.requires.0, inv.numbers.long))
