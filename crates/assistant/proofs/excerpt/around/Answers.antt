use borrow.Author.Rules.{rules}
use Rattle.assistant.proofs.Texts.{around_is}
use Rattle.assistant.proofs.excerpt.around.Goals as goal

ruleset all = (rules, around_is)

pub returns : goal.returns
returns c = search all
