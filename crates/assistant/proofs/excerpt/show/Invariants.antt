use Rattle.std.proofs.Common.{drop}
use Rattle.text.proofs.Putting.{Left}
use Rattle.assistant.specs.Place.{shown_line}
use Rattle.assistant.proofs.excerpt.show.Given as goal

abbrev pub invariant-loop-c : goal.invariant-loop-c
invariant-loop-c l = Left l.fn.out l.from (shown_line l.own) l.out l.at (shown_line (drop l.c-index l.own))
