use borrow.Author.Rules.{rules}
use Rattle.verdicts.proofs.Saying.{why_laws}
use Rattle.verdicts.proofs.verdict.why.Goals as goal

ruleset all = (rules, why_laws)

pub returns-in-Some : goal.returns-in-Some
returns-in-Some c = search all

pub returns-in-None : goal.returns-in-None
returns-in-None c = search all
