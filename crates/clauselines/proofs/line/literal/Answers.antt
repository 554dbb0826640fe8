use Rattle.std.proofs.Common.{rules}
use Rattle.clauselines.proofs.Clauses.{literal_next_fits, clause_laws}
use Rattle.clauselines.proofs.line.literal.Goals as goal

ruleset all = (rules, clause_laws)

pub offset_bounds-own-at : goal.offset_bounds-own-at
offset_bounds-own-at c = search all

pub bounds-own-at : goal.bounds-own-at
bounds-own-at c = search all

pub overflow_add-at : goal.overflow_add-at
overflow_add-at c = literal_next_fits c.requires (search rules)
