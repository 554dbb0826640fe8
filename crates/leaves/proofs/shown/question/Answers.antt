use borrow.Author.Rules.{rules}
use Rattle.leaves.proofs.Showing.{question_laws}
use Rattle.leaves.proofs.shown.question.Goals as goal

ruleset all = (rules, question_laws)

pub returns-then-file-lt4 : goal.returns-then-file-lt4
returns-then-file-lt4 c = search all

pub returns : goal.returns
returns c = search all
