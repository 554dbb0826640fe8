use Rattle.std.proofs.Common.{rules}
use Rattle.reports.proofs.Saying.{desk_is}
use Rattle.reports.proofs.said.report.Goals as goal

ruleset all = (rules, desk_is)

pub returns : goal.returns
returns c = search all
