use borrow.Author.Rules.{rules}
use Rattle.assistant.proofs.Texts.{located_is}
use Rattle.assistant.proofs.refusal.located.Goals as goal

pub returns : goal.returns
returns c = search (rules, located_is)
