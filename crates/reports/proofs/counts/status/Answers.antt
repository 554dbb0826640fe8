use Rattle.std.proofs.Common.{rules}
use Rattle.reports.proofs.Counting.{status_laws}
use Rattle.reports.proofs.counts.status.Goals as goal

ruleset all = (rules, status_laws)

pub returns-then-found : goal.returns-then-found
returns-then-found c = search all

pub returns-then-r-eq1 : goal.returns-then-r-eq1
returns-then-r-eq1 c = search all

pub returns-then-r-eq1-2 : goal.returns-then-r-eq1-2
returns-then-r-eq1-2 c = search all

pub returns : goal.returns
returns c = search all
