use borrow.Author.Rules.{rules}
use Rattle.assistant.proofs.Texts.{cost_is}
use Rattle.assistant.proofs.result.cost.Goals as goal

ruleset all = (rules, cost_is)

pub returns : goal.returns
returns c = search all
