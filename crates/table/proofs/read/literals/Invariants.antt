use Rattle.std.proofs.Common.{◌-◌}
use Rattle.table.proofs.Clauses.{GoingLiterals}
use Rattle.table.proofs.read.literals.Given as goal

abbrev pub invariant-loop : goal.invariant-loop
invariant-loop l = GoingLiterals l.count l.own l.many l.hash l.reached.at (l.many - l.counter) l.reached.hash
