use Rattle.table.specs.File.{table_in}
use Rattle.slim.proofs.Sweeping.{Shown}
use Rattle.slim.proofs.dropping.mark.Given as goal

abbrev pub invariant-loop-still : goal.invariant-loop-still
invariant-loop-still l = Shown (table_in l.asked.file.now) l.present l.still-index l.next l.marks
