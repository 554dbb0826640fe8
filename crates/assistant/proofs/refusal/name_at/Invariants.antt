use Rattle.std.proofs.Common.{drop}
use Rattle.names.specs.Noting.{name_from}
use Rattle.text.proofs.Putting.{Left}
use Rattle.assistant.proofs.refusal.name_at.Given as goal

abbrev pub invariant-loop-c : goal.invariant-loop-c
invariant-loop-c l = Left l.fn.out l.from (name_from l.rest) l.out l.at (name_from (drop l.c-index l.rest))
