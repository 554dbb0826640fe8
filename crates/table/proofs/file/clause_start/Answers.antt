use Rattle.std.proofs.Common.{rules}
use Rattle.table.proofs.Lookups.{part_laws}
use Rattle.table.proofs.file.clause_start.Goals as goal

pub start_of-requires : goal.start_of-requires
start_of-requires c = search (rules, part_laws)
