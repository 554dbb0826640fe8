use borrow.Author.Rules.{rules}
use Rattle.assistant.proofs.Texts.{szs_is}
use Rattle.assistant.proofs.result.szs.Goals as goal

ruleset all = (rules, szs_is)

pub returns : goal.returns
returns c = search all
