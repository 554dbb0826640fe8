use Rattle.std.proofs.Common.{rules}
use Rattle.table.proofs.Clauses.{literals_laws}
use Rattle.table.proofs.read.literal.Goals as goal

pub returns-then-own-from : goal.returns-then-own-from
returns-then-own-from c = search (rules, literals_laws)

pub returns-then-literal_shaped : goal.returns-then-literal_shaped
returns-then-literal_shaped c = search (rules, literals_laws)

pub returns : goal.returns
returns c = search (rules, literals_laws)
