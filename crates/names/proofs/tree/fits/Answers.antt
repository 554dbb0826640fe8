use Rattle.names.proofs.Using.{fitting_other, fitting_this, fitting_end}
use Rattle.names.proofs.tree.fits.Goals as goal

pub loop-i-preserved : goal.loop-i-preserved
loop-i-preserved c =
    fitting_this c.requires c.loop-i.invariant c.loop-i-test.true c.kind.ensures c.if-kind.false c.wide.ensures c.bytes-bytes.ensures c.if-left-bytes.false

pub returns : goal.returns
returns c = λ e. fitting_end c.requires c.loop-i.invariant c.loop-i-test.false

pub loop-i-preserved-then-kind : goal.loop-i-preserved-then-kind
loop-i-preserved-then-kind c = fitting_other c.requires c.loop-i.invariant c.loop-i-test.true c.kind.ensures c.if-kind.true
