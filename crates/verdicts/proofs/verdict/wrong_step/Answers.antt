use Rattle.verdicts.proofs.Saying.{wrong_step_is}
use Rattle.verdicts.proofs.verdict.wrong_step.Goals as goal

pub returns : goal.returns
returns c = wrong_step_is _ _ _ _ _ _ _ _ c.head-a.ensures c.pair_lines-b.ensures c.reason.ensures
