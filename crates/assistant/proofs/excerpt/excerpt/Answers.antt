use borrow.Author.Rules.{rules}
use Rattle.assistant.proofs.Texts.{excerpt_is}
use Rattle.assistant.proofs.excerpt.excerpt.Goals as goal

ruleset all = (rules, excerpt_is)

pub returns : goal.returns
returns c = search all
