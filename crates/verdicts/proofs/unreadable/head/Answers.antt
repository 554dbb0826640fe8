use Rattle.std.proofs.Common.{rules}
use Rattle.verdicts.proofs.Saying.{where_is}
use Rattle.verdicts.proofs.unreadable.head.Goals as goal

pub returns : goal.returns
returns c = search (rules, where_is)
