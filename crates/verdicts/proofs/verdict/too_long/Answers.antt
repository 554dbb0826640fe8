use Rattle.std.proofs.Common.{rules}
use Rattle.verdicts.proofs.Saying.{too_long_is}
use Rattle.verdicts.proofs.verdict.too_long.Goals as goal

pub returns : goal.returns
returns c = search (rules, too_long_is)
