use Rattle.std.proofs.Common.{rules}
use Rattle.clauselines.proofs.Clauses.{clause_laws}
use Rattle.clauselines.proofs.line.literals.Goals as goal

ruleset all = (rules, clause_laws)

pub returns : goal.returns
returns c = search all
