use Rattle.std.proofs.Common.{rules}
use Rattle.lent.proofs.Lent.{lent}
use Rattle.table_verbs.proofs.tables.lend_season.Goals as goal

pub slice_bounds-report_season-end : goal.slice_bounds-report_season-end
slice_bounds-report_season-end g c = search (rules, lent)

pub slice_bounds-report_season-end-2 : goal.slice_bounds-report_season-end-2
slice_bounds-report_season-end-2 g c = search (rules, lent)
