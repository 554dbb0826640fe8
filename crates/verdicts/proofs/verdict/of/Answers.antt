use Rattle.std.proofs.Common.{rules}
use Rattle.verdicts.proofs.Saying.{of_is}
use Rattle.verdicts.proofs.verdict.of.Goals as goal

pub returns : goal.returns
returns c = search (rules, of_is)
