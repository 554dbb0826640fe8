use Rattle.std.proofs.Common.{drop}
use Rattle.text.proofs.Putting.{Left}
use Rattle.written_proofs.specs.Steps.{names_of, steps_text}
use Rattle.written_proofs.proofs.write.lines.Given as goal

abbrev pub invariant-loop-w : goal.invariant-loop-w
invariant-loop-w l = Left l.fn.out l.from (steps_text (names_of l.text l.places) l.steps) l.out l.at (steps_text (names_of l.text l.places) (drop l.w-index l.steps))
