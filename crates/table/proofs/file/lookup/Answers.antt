use Rattle.std.proofs.Common.{rules}
use Rattle.table.specs.File.{clause_part}
use Rattle.table.proofs.Lookups.{lookup_laws}
use Rattle.table.proofs.file.lookup.Goals as goal

pub returns-then-judged-ne0 : goal.returns-then-judged-ne0
unfolding clause_part
returns-then-judged-ne0 c = search (rules, lookup_laws)

pub returns : goal.returns
returns c = search (rules, lookup_laws)
