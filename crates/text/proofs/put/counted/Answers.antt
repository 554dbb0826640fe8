use Rattle.std.proofs.Common.{arith}
use Rattle.text.proofs.Written.{counting_begin, ten_some, counted_more, counted_end, counted_zero, counted_last}
use Rattle.text.proofs.put.counted.Goals.{then-power-n, then-power-n-via-then-power-n, then-power-n-via-else-power-n+then-left-eq0, else-power-n+else-left-eq0}
use Rattle.text.proofs.put.counted.Goals as goal

pub loop-left-init : goal.loop-left-init
loop-left-init c = counting_begin c.args.n c.args.places c.args.highest c.args.out.now c.args.from c.requires.1 c.requires.2

pub nonzero_div-n : goal.nonzero_div-n
nonzero_div-n c = ten_some c.loop-left.invariant c.loop-left-test.true

pub loop-left-preserved : goal.loop-left-preserved
loop-left-preserved c =
    elim c.if-power-n.branch [
      | then-power-n w ↦
          elim w.then-power-n.branch [
            | then-power-n-via-then-power-n v ↦ rw (w.out-is, w.at-is) (counted_more c.loop-left.invariant c.loop-left-test.true w.glyph.ensures w.byte-at.ensures v.if-power-n.true)
            | then-power-n-via-else-power-n+then-left-eq0 v ↦ rw (w.out-is, w.at-is) (counted_end c.loop-left.invariant c.loop-left-test.true w.glyph.ensures w.byte-at.ensures v.if-left-eq0.true)
          ]
      | else-power-n+else-left-eq0 w ↦ rw (w.out-is, w.at-is) (counted_zero c.loop-left.invariant c.loop-left-test.true w.if-power-n.false w.if-left-eq0.false)
    ]

pub returns : goal.returns
returns c = counted_last c.loop-left.invariant (omega arith)
