use Rattle.std.proofs.Common.{rules}
use Rattle.verdicts.proofs.Saying.{step_shown_is}
use Rattle.verdicts.proofs.verdict.step_shown.Goals as goal

pub returns : goal.returns
returns c = search (rules, step_shown_is)
