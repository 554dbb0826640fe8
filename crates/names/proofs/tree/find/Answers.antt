use Rattle.names.proofs.Stems.{begin_looking, looked_less, looked_on}
use Rattle.names.proofs.tree.find.Goals as goal

pub loop-at-init : goal.loop-at-init
loop-at-init c = begin_looking c.requires.0 c.requires.1 c.wide.ensures c.wide-at.ensures

pub loop-at-smaller : goal.loop-at-smaller
loop-at-smaller c = looked_less c.requires.0 c.loop-at.invariant c.loop-at-test.true c.wide-at-in-loop-at.ensures

pub loop-at-preserved : goal.loop-at-preserved
loop-at-preserved c =
    looked_on c.requires.0 c.loop-at.invariant c.loop-at-test.true c.if-memory-at.false c.wide-at-in-loop-at.ensures
