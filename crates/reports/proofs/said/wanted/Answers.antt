use Rattle.std.proofs.Common.{rules}
use Rattle.reports.proofs.Saying.{want_laws}
use Rattle.reports.proofs.said.wanted.Goals as goal

ruleset all = (rules, want_laws)

pub returns-in-Nothing : goal.returns-in-Nothing
returns-in-Nothing c = search all

pub returns-in-Day : goal.returns-in-Day
returns-in-Day c = search all

pub returns-in-House : goal.returns-in-House
returns-in-House c = search all

pub returns-in-Slot : goal.returns-in-Slot
returns-in-Slot c = search all

pub returns-in-LineEnd : goal.returns-in-LineEnd
returns-in-LineEnd c = search all
