use Rattle.assistant.proofs.Places.{Counting}
use Rattle.assistant.proofs.place.locate.Given as goal

abbrev pub invariant-loop-c : goal.invariant-loop-c
invariant-loop-c l = Counting l.before l.line l.column l.c-index
