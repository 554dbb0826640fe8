use borrow.Author.Rules.{rules}
use Rattle.tuples.proofs.Walking.{next_symbol, next_variable}
use Rattle.tuples.proofs.first_use.Goals as goal

ruleset all = (rules, next_symbol, next_variable)

pub returns-then-kind-eq0 : goal.returns-then-kind-eq0
returns-then-kind-eq0 c = search all

pub returns-else-kind-eq0 : goal.returns-else-kind-eq0
returns-else-kind-eq0 c = search all
