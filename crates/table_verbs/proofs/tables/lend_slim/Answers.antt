use Rattle.std.proofs.Common.{rules}
use Rattle.lent.proofs.Lent.{lent}
use Rattle.table_verbs.proofs.tables.lend_slim.Goals as goal

pub slice_bounds-slim_file-end : goal.slice_bounds-slim_file-end
slice_bounds-slim_file-end g c = search (rules, lent)
