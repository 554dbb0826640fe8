use Rattle.names.proofs.Using.{Using}
use Rattle.names.proofs.tree.number.Given as goal

abbrev pub invariant-loop-i : goal.invariant-loop-i
invariant-loop-i l = Using l.text l.starts l.fn.words l.kind l.limit l.words l.memory l.stems l.count l.i
