use Rattle.table.specs.File.{table_in}
use Rattle.slim.proofs.Repeating.{First}
use Rattle.slim.proofs.dropping.first.Given as goal

abbrev pub invariant-loop-number : goal.invariant-loop-number
invariant-loop-number l = First (table_in l.asked.file.now) l.fn.present l.number l.at l.present
