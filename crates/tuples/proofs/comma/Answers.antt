use borrow.Author.Rules.{rules}
use Rattle.tuples.proofs.Walking.{comma_none, comma_some}
use Rattle.tuples.proofs.comma.Goals as goal

ruleset all = (rules, comma_none, comma_some)

pub returns-then-before-eq0 : goal.returns-then-before-eq0
returns-then-before-eq0 c = search all

pub returns : goal.returns
returns c = search all
