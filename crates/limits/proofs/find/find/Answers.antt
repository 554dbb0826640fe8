use Rattle.limits.proofs.Finding.{gathered_short}
use Rattle.tptp.proofs.Calling.{empty_memory}
use Rattle.naming.proofs.Indexing.{gathered_even, gathered_held}
use Rattle.limits.proofs.find.find.Goals as goal

pub gather-count-requires : goal.gather-count-requires
gather-count-requires c = let pre = c.requires in (pre.0, pre.1, empty_memory)

pub find_in-requires : goal.find_in-requires
find_in-requires c = let g = c.gather-count.ensures in (gathered_even g, gathered_short g, gathered_held g)
