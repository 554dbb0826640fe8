use borrow.Author.Rules.{rules}
use Rattle.verdicts.proofs.Saying.{against_laws}
use Rattle.verdicts.proofs.verdict.against.Goals as goal

ruleset all = (rules, against_laws)

pub returns-in_default : goal.returns-in_default
returns-in_default c = search all

pub returns : goal.returns
returns c = search all
