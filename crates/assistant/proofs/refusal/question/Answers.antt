use borrow.Author.Rules.{rules}
use Rattle.assistant.proofs.Texts.{question_is}
use Rattle.assistant.proofs.refusal.question.Goals as goal

ruleset all = (rules, question_is)

pub returns : goal.returns
returns c = search all
