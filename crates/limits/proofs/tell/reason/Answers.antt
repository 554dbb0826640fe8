use borrow.Author.Rules.{rules}
use Rattle.limits.proofs.Telling.{say_laws}
use Rattle.limits.proofs.tell.reason.Goals as goal

ruleset all = (rules, say_laws)

pub returns-in-Literals : goal.returns-in-Literals
returns-in-Literals c = search all

pub returns-in-Arguments : goal.returns-in-Arguments
returns-in-Arguments c = search all

pub returns-in-Variables : goal.returns-in-Variables
returns-in-Variables c = search all

pub returns-in-Words : goal.returns-in-Words
returns-in-Words c = search all

pub returns-in-Clauses : goal.returns-in-Clauses
returns-in-Clauses c = search all

pub returns-in-Predicates : goal.returns-in-Predicates
returns-in-Predicates c = search all

pub returns-in-Functions : goal.returns-in-Functions
returns-in-Functions c = search all

pub returns-in-Total : goal.returns-in-Total
returns-in-Total c = search all
