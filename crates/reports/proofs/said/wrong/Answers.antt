use Rattle.std.proofs.Common.{rules}
use Rattle.reports.proofs.Saying.{wrong_record_is}
use Rattle.reports.proofs.said.wrong.Goals as goal

ruleset all = (rules, wrong_record_is)

pub returns : goal.returns
returns c = search all
