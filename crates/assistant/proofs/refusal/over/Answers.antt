use borrow.Author.Rules.{rules}
use Rattle.assistant.proofs.Texts.{over_is}
use Rattle.assistant.proofs.refusal.over.Goals as goal

ruleset all = (rules, over_is)

pub returns : goal.returns
returns c = search all
