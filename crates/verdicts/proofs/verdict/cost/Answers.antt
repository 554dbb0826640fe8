use Rattle.std.proofs.Common.{rules}
use Rattle.verdicts.proofs.Saying.{cost_is}
use Rattle.verdicts.proofs.verdict.cost.Goals as goal

pub returns : goal.returns
returns c = search (rules, cost_is)
