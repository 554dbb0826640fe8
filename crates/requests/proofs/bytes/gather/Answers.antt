use Rattle.requests.proofs.Pairs.{bytes_over, digit_alone, bytes_end, bytes_on}
use Rattle.requests.proofs.bytes.gather.Goals as goal

pub returns-then-line-at-lt2 : goal.returns-then-line-at-lt2
returns-then-line-at-lt2 c = digit_alone c.args.line.now c.loop-at.at c.loop-at.invariant c.loop-at-test.true c.if-line-at-lt2.true

pub returns-in_default : goal.returns-in_default
returns-in_default c =
    bytes_end c.args.line.now c.loop-at.at c.loop-at.invariant c.loop-at-test.true c.if-line-at-lt2.false (rw c.in_default.is at c.pair.ensures)

pub loop-at-preserved : goal.loop-at-preserved
loop-at-preserved c =
    bytes_on c.args.line.now c.loop-at.at c.loop-at.invariant c.loop-at-test.true c.if-line-at-lt2.false c.in-Some.ensures c.byte-used.ensures

pub returns : goal.returns
returns c = bytes_over c.args.line.now c.loop-at.at c.loop-at.invariant c.loop-at-test.false
