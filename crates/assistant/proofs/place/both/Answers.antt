use borrow.Author.Rules.{rules}
use Rattle.text.proofs.Putting.{then}
use Rattle.assistant.proofs.place.both.Goals as goal

ruleset all = (rules, then)

pub returns : goal.returns
returns c = search all
