use Rattle.std.proofs.Common.{rules}
use Rattle.lent.proofs.Lent.{lent}
use Rattle.search_verbs.proofs.search.lend_search.Goals as goal

pub slice_bounds-find-end : goal.slice_bounds-find-end
slice_bounds-find-end g c = search (rules, lent)
