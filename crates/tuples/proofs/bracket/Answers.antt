use borrow.Author.Rules.{rules}
use Rattle.tuples.proofs.Walking.{open_first, open_further}
use Rattle.tuples.proofs.bracket.Goals as goal

ruleset all = (rules, open_first, open_further)

pub returns-then-before-eq0 : goal.returns-then-before-eq0
returns-then-before-eq0 c = search all

pub returns : goal.returns
returns c = search all
