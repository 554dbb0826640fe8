use borrow.Author.Rules.{rules}
use Rattle.tuples.proofs.Walking.{width_term, width_symbol}
use Rattle.tuples.proofs.width.Goals as goal

ruleset all = (rules, width_term, width_symbol)

pub returns-then-kind-eq0 : goal.returns-then-kind-eq0
returns-then-kind-eq0 c = search all

pub returns : goal.returns
returns c = search all
