use borrow.Author.Rules.{rules}
use Rattle.assistant.proofs.Texts.{head_is}
use Rattle.assistant.proofs.refusal.head.Goals as goal

ruleset all = (rules, head_is)

pub returns : goal.returns
returns c = search all
