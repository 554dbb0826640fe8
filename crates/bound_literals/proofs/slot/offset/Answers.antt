use Rattle.std.proofs.Common.{arith}
use Rattle.bound_literals.proofs.Seeking.{seek_begin, seek_over, seek_inside, seek_other, seek_found, seek_on}
use Rattle.bound_literals.proofs.slot.offset.Goals as goal

pub loop-offset-init : goal.loop-offset-init
loop-offset-init c = seek_begin c.requires.0 c.requires.1 c.word_at.ensures c.following-count.ensures

pub word_at-requires-in-loop-offset : goal.word_at-requires-in-loop-offset
word_at-requires-in-loop-offset c = seek_inside c.requires.0 c.requires.1 c.loop-offset.invariant (omega arith)

pub loop-offset-preserved-then-kind-ne2 : goal.loop-offset-preserved-then-kind-ne2
loop-offset-preserved-then-kind-ne2 c =
    seek_other c.requires.0 c.requires.1 c.loop-offset.invariant (omega arith) c.word_at-in-loop-offset.ensures c.kind.ensures c.if-kind-ne2.true

pub returns-then-left-eq0 : goal.returns-then-left-eq0
returns-then-left-eq0 c =
    seek_found c.requires.0 c.requires.1 c.loop-offset.invariant (omega arith) c.word_at-in-loop-offset.ensures c.kind.ensures c.if-kind-ne2.false c.if-left-eq0.true

pub loop-offset-preserved : goal.loop-offset-preserved
loop-offset-preserved c =
    seek_on c.requires.0 c.requires.1 c.loop-offset.invariant (omega arith) c.word_at-in-loop-offset.ensures c.kind.ensures c.if-kind-ne2.false c.if-left-eq0.false

pub returns : goal.returns
returns c = seek_over c.requires.0 c.requires.1 c.loop-offset.invariant (omega arith)
