use Rattle.answers.proofs.WritingAll.{WritingAll}
use Rattle.answers.proofs.answer.write.Given as goal

abbrev pub invariant-loop-copy : goal.invariant-loop-copy
invariant-loop-copy l = WritingAll l.file l.fn.work l.fn.answer l.work l.answer l.written l.disjuncts l.copy
