use borrow.Author.Rules.{rules}
use Rattle.assistant.proofs.Places.{figure_is}
use Rattle.assistant.proofs.place.figure.Goals as goal

ruleset all = (rules, figure_is)

pub returns : goal.returns
returns c = search all
