use borrow.Author.Rules.{rules}
use Rattle.assistant.proofs.Texts.{owed_laws}
use Rattle.assistant.proofs.expected.owed.Goals as goal

ruleset all = (rules, owed_laws)

pub returns-then-place-lt4 : goal.returns-then-place-lt4
returns-then-place-lt4 c = search all

pub returns-then-place-lt10 : goal.returns-then-place-lt10
returns-then-place-lt10 c = search all

pub returns-then-place-lt21 : goal.returns-then-place-lt21
returns-then-place-lt21 c = search all

pub returns : goal.returns
returns c = search all
