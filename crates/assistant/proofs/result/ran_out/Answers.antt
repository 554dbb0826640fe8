use borrow.Author.Rules.{rules}
use Rattle.assistant.proofs.Texts.{ran_out_is}
use Rattle.assistant.proofs.result.ran_out.Goals as goal

ruleset all = (rules, ran_out_is)

pub returns : goal.returns
returns c = search all
