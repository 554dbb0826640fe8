use borrow.Author.Rules.{rules}
use Rattle.verdicts.proofs.Saying.{entered_laws}
use Rattle.verdicts.proofs.verdict.entered.Goals as goal

ruleset all = (rules, entered_laws)

pub returns-then-literal-at : goal.returns-then-literal-at
returns-then-literal-at c = search all

pub returns : goal.returns
returns c = search all
