use borrow.Author.Rules.{rules}
use Rattle.assistant.proofs.Texts.{want_laws}
use Rattle.assistant.proofs.expected.wanted.Goals as goal

ruleset all = (rules, want_laws)

pub returns-in-Clause : goal.returns-in-Clause
returns-in-Clause c = search all

pub returns-in-Opening : goal.returns-in-Opening
returns-in-Opening c = search all

pub returns-in-Name : goal.returns-in-Name
returns-in-Name c = search all

pub returns-in-AfterName : goal.returns-in-AfterName
returns-in-AfterName c = search all

pub returns-in-Role : goal.returns-in-Role
returns-in-Role c = search all

pub returns-in-AfterRole : goal.returns-in-AfterRole
returns-in-AfterRole c = search all

pub returns-in-Formula : goal.returns-in-Formula
returns-in-Formula c = search all

pub returns-in-Literal : goal.returns-in-Literal
returns-in-Literal c = search all

pub returns-in-Atom : goal.returns-in-Atom
returns-in-Atom c = search all

pub returns-in-Symbol : goal.returns-in-Symbol
returns-in-Symbol c = search all

pub returns-in-Term : goal.returns-in-Term
returns-in-Term c = search all

pub returns-in-Ended : goal.returns-in-Ended
returns-in-Ended c = search all

pub returns-in-Closing : goal.returns-in-Closing
returns-in-Closing c = search all

pub returns-in-Stop : goal.returns-in-Stop
returns-in-Stop c = search all
