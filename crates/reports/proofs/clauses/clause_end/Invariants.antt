use Rattle.reports.proofs.Cutting.{Seeking}
use Rattle.reports.proofs.clauses.clause_end.Given as goal

abbrev pub invariant-loop-i : goal.invariant-loop-i
invariant-loop-i l = Seeking l.tail l.i l.remark
