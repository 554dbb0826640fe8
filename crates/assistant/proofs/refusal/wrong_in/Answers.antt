use borrow.Author.Rules.{rules}
use Rattle.assistant.proofs.Texts.{wrong_in_is}
use Rattle.assistant.proofs.refusal.wrong_in.Goals as goal

pub returns : goal.returns
returns c = search (rules, wrong_in_is)
