use borrow.Author.Rules.{rules}
use Rattle.assistant.proofs.Texts.{hope_is}
use Rattle.assistant.proofs.refusal.hope.Goals as goal

ruleset all = (rules, hope_is)

pub returns : goal.returns
returns c = search all
