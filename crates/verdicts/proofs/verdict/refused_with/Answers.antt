use Rattle.verdicts.proofs.Saying.{refused_open, refused_step}
use Rattle.verdicts.proofs.verdict.refused_with.Goals as goal

pub returns-then-status-eq15 : goal.returns-then-status-eq15
returns-then-status-eq15 c = refused_open _ _ _ _ _ _ c.question-question.ensures c.if-status-eq15.true c.leftmost-leaf.ensures c.«open».ensures

pub returns : goal.returns
returns c = refused_step _ _ _ _ _ _ c.question-question.ensures c.if-status-eq15.false c.leftmost-leaf.ensures c.at-w.ensures c.partner-to.ensures c.wrong_step.ensures
