use Rattle.written_proofs.proofs.Pieces.{complete_step, complete_other}
use Rattle.written_proofs.proofs.read.complete.Goals as goal

pub returns-in-Step : goal.returns-in-Step
returns-in-Step c = complete_step c.in-Step.is

pub returns-in_default : goal.returns-in_default
returns-in_default c = complete_other c.args.awaited c.in_default.not-Step
