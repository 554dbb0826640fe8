use Rattle.table.specs.File.{table_in}
use Rattle.slim.proofs.Repeating.{Differs}
use Rattle.slim.proofs.dropping.repeats.Given as goal

abbrev pub invariant-loop : goal.invariant-loop
invariant-loop l = Differs (table_in l.asked.file.now) l.number l.counter l.next
