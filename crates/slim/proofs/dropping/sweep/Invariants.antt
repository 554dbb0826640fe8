use Rattle.table.specs.File.{table_in}
use Rattle.slim.proofs.Sweeping.{Sweeping}
use Rattle.slim.proofs.dropping.sweep.Given as goal

abbrev pub invariant-loop-kept : goal.invariant-loop-kept
invariant-loop-kept l = Sweeping (table_in l.asked.file.now) l.fn.present l.kept-index l.next l.dropped l.present
