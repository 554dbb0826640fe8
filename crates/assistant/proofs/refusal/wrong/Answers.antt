use borrow.Author.Rules.{rules}
use Rattle.assistant.proofs.Texts.{wrong_laws}
use Rattle.assistant.proofs.refusal.wrong.Goals as goal

ruleset all = (rules, wrong_laws)

pub returns-then-text-gt65536 : goal.returns-then-text-gt65536
returns-then-text-gt65536 c = search all

pub returns : goal.returns
returns c = search all
