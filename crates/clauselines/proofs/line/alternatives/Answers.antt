use Rattle.std.proofs.Common.{arith}
use Rattle.clauselines.proofs.Clauses.{owed_here, owed_next, owed_done}
use Rattle.clauselines.proofs.line.alternatives.Goals as goal

pub literal-reached-requires : goal.literal-reached-requires
literal-reached-requires c = owed_here c.loop.invariant (omega arith)

pub loop-preserved : goal.loop-preserved
loop-preserved c = owed_next c.loop.invariant (omega arith) (omega arith) c.bytes-bar.ensures c.literal-reached.ensures

pub returns : goal.returns
returns c = owed_done c.loop.invariant (omega arith)
