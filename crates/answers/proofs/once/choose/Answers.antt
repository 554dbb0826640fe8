-- The copies are weighed one after the other.
use Rattle.std.proofs.Common.{arith}
use Rattle.answers.proofs.Repeats.{choosing_begin, choosing_on, choosing_done}
use Rattle.answers.proofs.once.choose.Goals as goal

pub loop-copy-init : goal.loop-copy-init
loop-copy-init c = choosing_begin c.requires

pub loop-copy-preserved : goal.loop-copy-preserved
loop-copy-preserved c = choosing_on c.requires c.loop-copy.invariant c.loop-copy-test.true c.weigh-kept.ensures c.wide.ensures

pub returns : goal.returns
returns c = choosing_done c.requires c.loop-copy.invariant c.loop-copy-test.false
