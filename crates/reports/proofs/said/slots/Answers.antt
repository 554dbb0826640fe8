use Rattle.std.proofs.Common.{rules}
use Rattle.reports.proofs.Saying.{slot_laws}
use Rattle.reports.proofs.said.slots.Goals as goal

ruleset all = (rules, slot_laws)

pub returns-in-Refused : goal.returns-in-Refused
returns-in-Refused c = search all

pub returns-in-RanOut : goal.returns-in-RanOut
returns-in-RanOut c = search all

pub returns-in-Matinee : goal.returns-in-Matinee
returns-in-Matinee c = search all

pub returns-in-Evening : goal.returns-in-Evening
returns-in-Evening c = search all

pub returns-in-MatineeAndEvening : goal.returns-in-MatineeAndEvening
returns-in-MatineeAndEvening c = search all

pub returns-in-Either : goal.returns-in-Either
returns-in-Either c = search all

pub returns-in-NotRecorded : goal.returns-in-NotRecorded
returns-in-NotRecorded c = search all
