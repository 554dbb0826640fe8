use borrow.Author.Rules.{rules}
use Rattle.assistant.proofs.Places.{blank_laws}
use Rattle.assistant.proofs.excerpt.blanks.Goals as goal

ruleset all = (rules, blank_laws)

pub loop-init : goal.loop-init
loop-init c = search all

pub loop-preserved : goal.loop-preserved
loop-preserved c = search all

pub returns : goal.returns
returns c = search all
