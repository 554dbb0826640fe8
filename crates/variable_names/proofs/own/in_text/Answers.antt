use borrow.Author.Rules.{rules}
use Rattle.variable_names.proofs.Clauses.{gathered_short}
use Rattle.tptp.proofs.Calling.{empty_memory}
use Rattle.naming.proofs.Indexing.{gathered_even, gathered_held}
use Rattle.variable_names.proofs.own.in_text.Goals as goal

pub gather-count-requires : goal.gather-count-requires
gather-count-requires c = let pre = c.requires in (pre.0, pre.1, empty_memory)

pub in_clause-requires : goal.in_clause-requires
in_clause-requires c = let g = c.gather-count.ensures in (gathered_even g, gathered_short g, gathered_held g)
