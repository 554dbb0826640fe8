use Rattle.std.proofs.Common.{rules}
use Rattle.reports.proofs.Cutting.{part_laws}
use Rattle.reports.proofs.clauses.put_stated.Goals as goal

ruleset all = (rules, part_laws)

pub returns-then-s-eq0 : goal.returns-then-s-eq0
returns-then-s-eq0 c = search all

pub returns : goal.returns
returns c = search all
