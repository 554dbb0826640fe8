use borrow.Author.Rules.{rules}
use Rattle.assistant.proofs.Texts.{unasked_laws}
use Rattle.assistant.proofs.refusal.unasked.Goals as goal

ruleset all = (rules, unasked_laws)

pub returns-then-questions-eq0 : goal.returns-then-questions-eq0
returns-then-questions-eq0 c = search all

pub returns : goal.returns
returns c = search all
