use borrow.Author.Rules.{rules}
use Rattle.assistant.proofs.Places.{name_laws}
use Rattle.assistant.proofs.refusal.name_at.Goals as goal

ruleset all = (rules, name_laws)

pub loop-c-init : goal.loop-c-init
loop-c-init c = search all

pub returns-then-not-goes_on : goal.returns-then-not-goes_on
returns-then-not-goes_on c = rw (← c.rest-rest.ensures) (search all)

pub loop-c-preserved : goal.loop-c-preserved
loop-c-preserved c = search all

pub returns : goal.returns
returns c = search all
