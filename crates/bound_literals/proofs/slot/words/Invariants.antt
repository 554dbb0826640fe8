use Rattle.std.proofs.Common.{drop}
use Rattle.text.proofs.Putting.{Left}
use Rattle.bound_literals.proofs.slot.words.Given as goal

abbrev pub invariant-loop-word : goal.invariant-loop-word
invariant-loop-word l = Left l.fn.out l.fn.from l.list l.out l.at (drop l.word-index l.list)
