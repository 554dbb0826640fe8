use Rattle.table.specs.File.{table_in}
use Rattle.slim.proofs.Copying.{Copied}
use Rattle.slim.proofs.writing.copy_clauses.Given as goal

abbrev pub invariant-loop-kept : goal.invariant-loop-kept
invariant-loop-kept l = Copied (table_in l.file) l.present l.fn.slimmer l.kept-index l.next l.words l.slimmer
