use borrow.Author.Rules.{rules}
use Rattle.variable_names.proofs.Walks.{place_laws}
use Rattle.variable_names.proofs.find.place.Goals as goal

ruleset all = (rules, place_laws)

pub returns-then-clause-stated : goal.returns-then-clause-stated
returns-then-clause-stated c = search all

pub returns-then-clause-stated-2 : goal.returns-then-clause-stated-2
returns-then-clause-stated-2 c = search all

pub returns : goal.returns
returns c = search all
