use borrow.Author.Rules.{rules}
use Rattle.assistant.proofs.Texts.{mark_is}
use Rattle.assistant.proofs.excerpt.mark.Goals as goal

ruleset all = (rules, mark_is)

pub returns : goal.returns
returns c = search all
