use Rattle.index.proofs.Plain.{Passing}
use Rattle.index.proofs.notes.past_plain.Given as goal

abbrev pub invariant-loop-at : goal.invariant-loop-at
invariant-loop-at l = Passing l.file l.body l.scan.at l.at
