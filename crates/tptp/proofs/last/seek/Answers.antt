use Rattle.std.proofs.Common.{◌∙◌}
use Rattle.tptp.proofs.Ahead.{begin_seek, seek_end, seek_found, seek_on}
use Rattle.tptp.proofs.last.seek.Goals as goal

pub loop-at-init : goal.loop-at-init
loop-at-init c = begin_seek

pub returns-then-sort-marks : goal.returns-then-sort-marks
returns-then-sort-marks c = seek_found c.loop-at.invariant c.loop-at-test.true c.if-sort-marks.true

pub loop-at-preserved : goal.loop-at-preserved
loop-at-preserved c = seek_on c.loop-at.invariant c.loop-at-test.true c.if-sort-marks.false

pub returns : goal.returns
returns c = c.max.ensures ∙ seek_end c.loop-at.invariant c.loop-at-test.false
