use Rattle.tptp.proofs.Spans.{Spanning}
use Rattle.tptp.proofs.body.clause_end.Given as goal

abbrev pub invariant-loop-end : goal.invariant-loop-end
invariant-loop-end l = Spanning l.words l.from l.end
