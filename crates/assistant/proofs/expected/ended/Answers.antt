use borrow.Author.Rules.{rules}
use Rattle.assistant.proofs.Texts.{ended_laws}
use Rattle.assistant.proofs.expected.ended.Goals as goal

ruleset all = (rules, ended_laws)

pub returns-then-depth-eq0 : goal.returns-then-depth-eq0
returns-then-depth-eq0 c = search all

pub returns : goal.returns
returns c = search all
