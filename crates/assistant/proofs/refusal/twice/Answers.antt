use borrow.Author.Rules.{rules}
use Rattle.assistant.proofs.Texts.{twice_is}
use Rattle.assistant.proofs.refusal.twice.Goals as goal

ruleset all = (rules, twice_is)

pub returns : goal.returns
returns c = search all
