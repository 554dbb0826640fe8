use Rattle.verdicts.proofs.Saying.{there_is}
use Rattle.verdicts.proofs.verdict.there.Goals as goal

pub returns : goal.returns
returns c = there_is _ _ _ _ _ c.copy_number-copy.ensures c.told.ensures
