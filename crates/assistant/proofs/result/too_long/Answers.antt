use borrow.Author.Rules.{rules}
use Rattle.assistant.proofs.Texts.{too_long_is}
use Rattle.assistant.proofs.result.too_long.Goals as goal

ruleset all = (rules, too_long_is)

pub returns : goal.returns
returns c = search all
