use Rattle.std.proofs.Common.{rules}
use Rattle.clauselines.proofs.Clauses.{clause_laws}
use Rattle.clauselines.proofs.line.sign.Goals as goal

ruleset all = (rules, clause_laws)

pub returns-then-negative : goal.returns-then-negative
returns-then-negative c = search all

pub returns : goal.returns
returns c = search all
