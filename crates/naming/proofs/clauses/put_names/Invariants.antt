use Rattle.std.proofs.Common.{length, ◌-◌}
use Rattle.naming.proofs.ClauseNames.{Going}
use Rattle.naming.proofs.clauses.put_names.Given as goal

abbrev pub invariant-loop-lexeme : goal.invariant-loop-lexeme
invariant-loop-lexeme l = Going l.text l.asked l.fn.out l.from l.out l.stage l.name l.end l.at

abbrev pub decreases-loop-lexeme : goal.decreases-loop-lexeme
decreases-loop-lexeme l = length l.text - l.at
