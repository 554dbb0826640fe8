use Rattle.table.specs.File.{table_in}
use Rattle.slim.proofs.Copying.{Counting}
use Rattle.slim.proofs.writing.measure.Given as goal

abbrev pub invariant-loop-kept : goal.invariant-loop-kept
invariant-loop-kept l = Counting (table_in l.file) l.present l.kept-index l.next l.words l.clauses
