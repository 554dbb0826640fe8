use Rattle.std.proofs.Common.{rules}
use Rattle.reports.proofs.Counting.{count_laws}
use Rattle.reports.proofs.counts.found_counts.Goals as goal

ruleset all = (rules, count_laws)

pub returns : goal.returns
returns c = search all
