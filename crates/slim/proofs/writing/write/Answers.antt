use Rattle.std.proofs.Common.{rules}
use Rattle.slim.proofs.Telling.{write_laws}
use Rattle.slim.proofs.writing.write.Goals as goal

pub copy_clauses-requires-clause-present_in_bounds :
    goal.copy_clauses-requires-clause-present_in_bounds
copy_clauses-requires-clause-present_in_bounds c = search (rules, write_laws)

pub append-requires : goal.append-requires
append-requires c = search (rules, write_laws)

pub seal-requires : goal.seal-requires
seal-requires c = search (rules, write_laws)

pub returns : goal.returns
returns c = search (rules, write_laws)
