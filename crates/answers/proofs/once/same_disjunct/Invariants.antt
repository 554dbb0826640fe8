use Rattle.answers.proofs.Repeats.{Comparing}
use Rattle.answers.proofs.once.same_disjunct.Given as goal

abbrev pub invariant-loop-offset : goal.invariant-loop-offset
invariant-loop-offset l = Comparing l.file l.fn.work l.work l.copy l.other l.count l.offset
