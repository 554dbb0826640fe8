use borrow.Author.Rules.{rules}
use Rattle.assistant.proofs.Texts.{positive_is}
use Rattle.assistant.proofs.refusal.positive.Goals as goal

ruleset all = (rules, positive_is)

pub returns : goal.returns
returns c = search all
