use Rattle.answers.proofs.Counting.{CountingAll}
use Rattle.answers.proofs.answer.room_after.Given as goal

abbrev pub invariant-loop-copy : goal.invariant-loop-copy
invariant-loop-copy l = CountingAll l.file l.work l.room l.copy l.left
