use Rattle.std.proofs.Common.{◌-◌, length}
use Rattle.table.specs.File.{table_in}
use Rattle.slim.proofs.Settling.{Settling}
use Rattle.slim.proofs.dropping.settle.Given as goal

abbrev pub invariant-loop : goal.invariant-loop
invariant-loop l = Settling (table_in l.asked.file.now) (length l.fn.present - l.counter) l.present
