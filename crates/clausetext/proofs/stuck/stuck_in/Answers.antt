use Rattle.clausetext.proofs.StuckLoop.{follow_next}
use Rattle.clausetext.proofs.stuck.stuck_in.Goals as goal

pub loop-c-preserved : goal.loop-c-preserved
loop-c-preserved c = follow_next c.loop-c.invariant c.loop-c-test.true c.advance.ensures c.in-Some.is
