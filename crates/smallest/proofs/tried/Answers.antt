use Rattle.std.proofs.Common.{arith}
use Rattle.smallest.proofs.Bounds.{all_tried, sum_fits, next, over}
use Rattle.smallest.proofs.tried.Goals as goal
use Rattle.smallest.proofs.tried.Goals.{else-loop-bound-test, then-loop-bound-test+else-status-ne-NONE_FOUND+else-bound-limit}

pub summed-requires : goal.summed-requires
summed-requires c = omega (arith, sum_fits c.loop-bound.invariant c.loop-bound-test.true c.searched-outcome.ensures, c.ranges.budget)

pub returns-then-status-ne-NONE_FOUND : goal.returns-then-status-ne-NONE_FOUND
returns-then-status-ne-NONE_FOUND c =
    over c.loop-bound.invariant c.loop-bound-test.true c.searched-outcome.ensures c.if-status-ne-NONE_FOUND.true c.told.ensures c.summed.ensures

pub overflow_add-used : goal.overflow_add-used
overflow_add-used c = omega (arith, sum_fits c.loop-bound.invariant c.loop-bound-test.true c.searched-outcome.ensures, c.ranges.budget)

pub loop-bound-preserved : goal.loop-bound-preserved
loop-bound-preserved c =
    next c.loop-bound.invariant c.loop-bound-test.true c.searched-outcome.ensures c.searched-outcome.auto.work c.if-status-ne-NONE_FOUND.false

pub returns : goal.returns
returns c =
    elim c.loop-bound-test.branch [
      | else-loop-bound-test w ↦ rw (w.proof-is, w.answer-is) (all_tried c.loop-bound.invariant (omega arith) (rw w.used-is at c.refused.ensures))
      | then-loop-bound-test+else-status-ne-NONE_FOUND+else-bound-limit w ↦
          rw (w.proof-is, w.answer-is)
          (all_tried
          (next c.loop-bound.invariant w.loop-bound-test.true w.searched-outcome.ensures w.searched-outcome.auto.work w.if-status-ne-NONE_FOUND.false)
          (omega arith)
          (rw w.used-is at c.refused.ensures))
    ]
