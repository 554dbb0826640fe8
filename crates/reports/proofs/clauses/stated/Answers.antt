use Rattle.std.proofs.Common.{rules}
use Rattle.reports.proofs.Cutting.{stated_laws}
use Rattle.reports.proofs.clauses.stated.Goals as goal

ruleset all = (rules, stated_laws)

pub loop-at-preserved : goal.loop-at-preserved
loop-at-preserved c = search all
