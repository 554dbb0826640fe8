use Rattle.std.proofs.Common.{rules}
use Rattle.verdicts.proofs.Saying.{head_is}
use Rattle.verdicts.proofs.verdict.head.Goals as goal

pub returns : goal.returns
returns c = search (rules, head_is)
