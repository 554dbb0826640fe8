use Rattle.table.specs.File.{table_in}
use Rattle.seen.proofs.Seeing.{Flagged}
use Rattle.seen.proofs.flag_seen.Given as goal

abbrev pub invariant-loop-seen : goal.invariant-loop-seen
invariant-loop-seen l = Flagged (table_in l.file) l.fn.present l.seen-index l.at l.present
