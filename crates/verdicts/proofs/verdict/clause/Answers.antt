use Rattle.std.proofs.Common.{rules}
use Rattle.verdicts.proofs.Saying.{clause_shown_is}
use Rattle.verdicts.proofs.verdict.clause.Goals as goal

pub returns : goal.returns
returns c = search (rules, clause_shown_is)
