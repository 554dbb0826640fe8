use borrow.Author.Rules.{rules}
use Rattle.tuples.proofs.Walking.{line_laws}
use Rattle.tuples.proofs.answers.Goals as goal

ruleset all = (rules, line_laws)

pub returns-then-question-eq0 : goal.returns-then-question-eq0
returns-then-question-eq0 c = search all

pub returns-then-variables-eq0 : goal.returns-then-variables-eq0
returns-then-variables-eq0 c = search all

pub returns : goal.returns
returns c = search all
