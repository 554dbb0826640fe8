use Rattle.std.proofs.Common.{◌-◌, replicate}
use Rattle.text.proofs.Putting.{Left}
use Rattle.assistant.proofs.excerpt.blanks.Given as goal

abbrev pub invariant-loop : goal.invariant-loop
invariant-loop l = Left l.fn.out l.from (replicate l.n 32) l.out l.at (replicate (l.n - l.counter) 32)
