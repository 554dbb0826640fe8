use Rattle.std.proofs.Common.{rules}
use Rattle.reports.proofs.Lining.{gather_laws}
use Rattle.reports.proofs.records.gather.Goals as goal

ruleset all = (rules, gather_laws)

pub loop-at-preserved : goal.loop-at-preserved
loop-at-preserved c = search all
