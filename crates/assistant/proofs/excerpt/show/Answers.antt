use borrow.Author.Rules.{rules}
use Rattle.assistant.proofs.Places.{show_laws}
use Rattle.assistant.proofs.excerpt.show.Goals as goal

ruleset all = (rules, show_laws)

pub loop-c-init : goal.loop-c-init
loop-c-init c = search all

pub returns-then-c-eq10 : goal.returns-then-c-eq10
returns-then-c-eq10 c = search all

pub loop-c-preserved : goal.loop-c-preserved
loop-c-preserved c = search all

pub returns : goal.returns
returns c = search all
