use Rattle.std.proofs.Common.{rules}
use Rattle.verdicts.proofs.Saying.{awaited_laws}
use Rattle.verdicts.proofs.unreadable.expected.Goals as goal

pub returns-in-Step : goal.returns-in-Step
returns-in-Step c = search (rules, awaited_laws)

pub returns-in-Height : goal.returns-in-Height
returns-in-Height c = search (rules, awaited_laws)

pub returns-in-Clause : goal.returns-in-Clause
returns-in-Clause c = search (rules, awaited_laws)

pub returns-in-Literal : goal.returns-in-Literal
returns-in-Literal c = search (rules, awaited_laws)
