use borrow.Author.Rules.{rules}
use Rattle.assistant.proofs.Texts.{none_is}
use Rattle.assistant.proofs.result.none.Goals as goal

ruleset all = (rules, none_is)

pub returns : goal.returns
returns c = search all
