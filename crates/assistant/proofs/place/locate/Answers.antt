use borrow.Author.Rules.{rules}
use Rattle.assistant.proofs.Places.{place_laws}
use Rattle.assistant.proofs.place.locate.Goals as goal
use Rattle.assistant.proofs.place.locate.Goals.{then-c-eq10, else-c-eq10}

ruleset all = (rules, place_laws)

pub loop-c-init : goal.loop-c-init
loop-c-init c = search all

pub overflow_add-line : goal.overflow_add-line
overflow_add-line c = search all

pub overflow_add-column : goal.overflow_add-column
overflow_add-column c = search all

pub loop-c-preserved : goal.loop-c-preserved
loop-c-preserved c =
    elim c.if-c-eq10.branch [ then-c-eq10 w ↦ rw (w.line-is, w.column-is) (search all) | else-c-eq10 w ↦ rw (w.line-is, w.column-is) (search all) ]

pub returns : goal.returns
returns c = record { value = search all; le_column = (search all, search all) }
