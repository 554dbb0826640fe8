use Rattle.std.proofs.Common.{rules}
use Rattle.reports.proofs.Counting.{ended_laws}
use Rattle.reports.proofs.counts.ended.Goals as goal

ruleset all = (rules, ended_laws)

pub returns-then-r-eq1 : goal.returns-then-r-eq1
returns-then-r-eq1 c = search all

pub returns-then-r-eq1-2 : goal.returns-then-r-eq1-2
returns-then-r-eq1-2 c = search all

pub returns-then-r-eq1-3 : goal.returns-then-r-eq1-3
returns-then-r-eq1-3 c = search all

pub returns-then-r-eq1-4 : goal.returns-then-r-eq1-4
returns-then-r-eq1-4 c = search all

pub returns-then-r-eq1-5 : goal.returns-then-r-eq1-5
returns-then-r-eq1-5 c = search all

pub returns : goal.returns
returns c = search all
