use Rattle.std.proofs.Common.{rules}
use Rattle.verdicts.proofs.Saying.{reason_laws}
use Rattle.verdicts.proofs.verdict.reason.Goals as goal

pub returns-then-status-eq13 : goal.returns-then-status-eq13
returns-then-status-eq13 c = search (rules, reason_laws)

pub returns : goal.returns
returns c = search (rules, reason_laws)
