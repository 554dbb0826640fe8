use Rattle.requests.proofs.Rows.{Reading}
use Rattle.requests.proofs.request.read.Given as goal

abbrev pub invariant-loop-kind : goal.invariant-loop-kind
invariant-loop-kind l = Reading l.line l.from l.row l.initial.values l.values l.at l.used l.kind-index
