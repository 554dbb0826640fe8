use Rattle.std.proofs.Common.{rules}
use Rattle.verdicts.proofs.Saying.{accepted_laws}
use Rattle.verdicts.proofs.verdict.accepted.Goals as goal

pub returns-then-disjuncts-eq1 : goal.returns-then-disjuncts-eq1
returns-then-disjuncts-eq1 c = search (rules, accepted_laws)

pub returns : goal.returns
returns c = search (rules, accepted_laws)
