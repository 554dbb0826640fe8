use Rattle.written_proofs.proofs.Names.{Standing}
use Rattle.written_proofs.proofs.clause.stands.Given as goal

abbrev pub invariant-loop-place : goal.invariant-loop-place
invariant-loop-place l = Standing l.text l.places l.own l.place-index
