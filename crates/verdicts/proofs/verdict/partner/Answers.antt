use borrow.Author.Rules.{rules}
use Rattle.verdicts.specs.Verdicts.{partner}
use Rattle.verdicts.proofs.Saying.{partner_laws}
use Rattle.verdicts.proofs.verdict.partner.Goals as goal

ruleset all = (rules, partner_laws)

pub returns-in-Reduction : goal.returns-in-Reduction
returns-in-Reduction c = search all

pub returns-in-Extension : goal.returns-in-Extension
returns-in-Extension c = search all

pub returns-in-Restart : goal.returns-in-Restart
unfolding partner
returns-in-Restart c = search all
