use Rattle.written_proofs.proofs.Pieces.{go_begin, go_over, go_blank, go_within, go_less, go_wrong, go_awaits, go_makes}
use Rattle.written_proofs.specs.Steps.{names_of}
use Rattle.written_proofs.proofs.read.pieces.Goals as goal

pub loop-at-init : goal.loop-at-init
loop-at-init c = go_begin (names_of c.args.text.now c.args.places.now) c.args.said.now c.args.steps.now

pub loop-at-preserved-then-said-at-le32 : goal.loop-at-preserved-then-said-at-le32
loop-at-preserved-then-said-at-le32 c = go_blank c.loop-at.invariant c.loop-at-test.true c.if-said-at-le32.true

pub slice_bounds-weigh-end : goal.slice_bounds-weigh-end
slice_bounds-weigh-end c = go_within c.loop-at.invariant c.loop-at-test.true c.if-said-at-le32.false c.piece_end-end.ensures

pub loop-at-smaller-in-Awaits : goal.loop-at-smaller-in-Awaits
loop-at-smaller-in-Awaits c = go_less c.loop-at.invariant c.loop-at-test.true c.if-said-at-le32.false c.piece_end-end.ensures

pub loop-at-preserved-in-Awaits : goal.loop-at-preserved-in-Awaits
loop-at-preserved-in-Awaits c = go_awaits c.loop-at.invariant c.loop-at-test.true c.if-said-at-le32.false c.piece_end-end.ensures c.weigh.ensures c.in-Awaits.is

pub loop-at-smaller : goal.loop-at-smaller
loop-at-smaller c = go_less c.loop-at.invariant c.loop-at-test.true c.if-said-at-le32.false c.piece_end-end.ensures

pub loop-at-preserved : goal.loop-at-preserved
loop-at-preserved c = go_makes c.loop-at.invariant c.loop-at-test.true c.if-said-at-le32.false c.piece_end-end.ensures c.weigh.ensures c.in-Makes.is c.word-used.ensures

pub returns-in-Wrong : goal.returns-in-Wrong
returns-in-Wrong c = go_wrong c.loop-at.invariant c.loop-at-test.true c.if-said-at-le32.false c.piece_end-end.ensures c.weigh.ensures c.in-Wrong.is

pub returns : goal.returns
returns c = go_over c.loop-at.invariant c.loop-at-test.false c.complete.ensures
