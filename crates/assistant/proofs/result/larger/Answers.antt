use borrow.Author.Rules.{rules}
use Rattle.assistant.proofs.Texts.{larger_laws}
use Rattle.assistant.proofs.result.larger.Goals as goal

ruleset all = (rules, larger_laws)

pub returns-then-limit-lt32 : goal.returns-then-limit-lt32
returns-then-limit-lt32 c = search all

pub returns : goal.returns
returns c = search all
