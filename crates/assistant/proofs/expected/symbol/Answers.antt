use borrow.Author.Rules.{rules}
use Rattle.assistant.proofs.Texts.{symbol_laws}
use Rattle.assistant.proofs.expected.symbol.Goals as goal

ruleset all = (rules, symbol_laws)

pub returns-then-depth-eq0 : goal.returns-then-depth-eq0
returns-then-depth-eq0 c = search all

pub returns : goal.returns
returns c = search all
