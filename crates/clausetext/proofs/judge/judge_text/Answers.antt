use Rattle.clausetext.proofs.JudgeLoop.{judge_next, next_of}
use Rattle.clausetext.proofs.judge.judge_text.Goals as goal

pub loop-at-preserved : goal.loop-at-preserved
loop-at-preserved c =
    judge_next c.loop-at.invariant c.loop-at-test.true c.advance.ensures (next_of _ _ c.ok_or.ensures.value c.in_ok-s.was)
