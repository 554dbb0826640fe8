use borrow.Author.Rules.{rules}
use Rattle.assistant.proofs.Texts.{long_is}
use Rattle.assistant.proofs.refusal.long.Goals as goal

ruleset all = (rules, long_is)

pub returns : goal.returns
returns c = search all
