use Rattle.std.proofs.Common.{◌-◌}
use Rattle.table.proofs.Bodies.{Seeking}
use Rattle.table.proofs.file.start_of.Given as goal

abbrev pub invariant-loop : goal.invariant-loop
invariant-loop l = Seeking l.body l.number l.at (l.number - l.counter)
