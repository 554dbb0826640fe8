use Rattle.std.proofs.Common.{arith, ap, length}
use Rattle.names.proofs.Marking.{begin_entering}
use Rattle.names.proofs.tree.enter.Goals as goal

pub loop-c-init : goal.loop-c-init
loop-c-init c = begin_entering c.requires.0 (omega (arith, c.requires.1, ap length c.at-c-items.ensures))
