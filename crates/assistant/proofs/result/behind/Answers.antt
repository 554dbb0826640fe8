use borrow.Author.Rules.{rules}
use Rattle.assistant.proofs.Texts.{behind_is}
use Rattle.assistant.proofs.result.behind.Goals as goal

ruleset all = (rules, behind_is)

pub returns : goal.returns
returns c = search all
