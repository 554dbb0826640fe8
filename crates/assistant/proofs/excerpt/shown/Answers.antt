use borrow.Author.Rules.{rules}
use Rattle.assistant.proofs.Places.{shown_laws}
use Rattle.assistant.proofs.excerpt.shown.Goals as goal

ruleset all = (rules, shown_laws)

pub returns-in-32-to-126 : goal.returns-in-32-to-126
returns-in-32-to-126 c = search all

pub returns-in_default : goal.returns-in_default
returns-in_default c = search all

pub returns-in_default-2 : goal.returns-in_default-2
returns-in_default-2 c = search all
