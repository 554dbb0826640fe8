use Rattle.table.proofs.Building.{copy_next, copy_done}
use Rattle.table.proofs.build.append.Goals as goal

pub loop-i-preserved : goal.loop-i-preserved
loop-i-preserved c = copy_next c.requires c.loop-i.invariant c.loop-i-test.true

pub returns : goal.returns
returns c = copy_done c.requires c.loop-i.invariant c.loop-i-test.false
