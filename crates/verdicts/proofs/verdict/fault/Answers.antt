use Rattle.std.proofs.Common.{rules}
use Rattle.verdicts.proofs.Saying.{fault_laws}
use Rattle.verdicts.proofs.verdict.fault.Goals as goal

pub returns-then-status-eq12 : goal.returns-then-status-eq12
returns-then-status-eq12 c = search (rules, fault_laws)

pub returns-then-status-eq14 : goal.returns-then-status-eq14
returns-then-status-eq14 c = search (rules, fault_laws)

pub returns-then-status-eq20 : goal.returns-then-status-eq20
returns-then-status-eq20 c = search (rules, fault_laws)

pub returns : goal.returns
returns c = search (rules, fault_laws)
