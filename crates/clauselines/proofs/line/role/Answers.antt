use Rattle.std.proofs.Common.{rules}
use Rattle.clauselines.proofs.Clauses.{clause_laws}
use Rattle.clauselines.proofs.line.role.Goals as goal

ruleset all = (rules, clause_laws)

pub returns-then-asked : goal.returns-then-asked
returns-then-asked c = search all

pub returns : goal.returns
returns c = search all
