use borrow.Author.Rules.{rules}
use Rattle.text.proofs.Putting.{then}
use Rattle.tuples.proofs.term.Goals as goal

ruleset all = (rules, then)

pub returns : goal.returns
returns c = search all
