use Rattle.std.proofs.Common.{rules}
use Rattle.lent.proofs.Lent.{lent}
use Rattle.search_verbs.proofs.check.lend_check.Goals as goal

pub slice_bounds-check-end : goal.slice_bounds-check-end
slice_bounds-check-end g c = search (rules, lent)
