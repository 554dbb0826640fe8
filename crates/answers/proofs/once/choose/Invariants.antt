use Rattle.answers.proofs.Repeats.{Choosing}
use Rattle.answers.proofs.once.choose.Given as goal

abbrev pub invariant-loop-copy : goal.invariant-loop-copy
invariant-loop-copy l = Choosing l.file l.fn.work l.work l.question l.copy
