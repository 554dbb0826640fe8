use Rattle.answers.proofs.Counting.{CountingCopy}
use Rattle.answers.proofs.answer.room_after_copy.Given as goal

abbrev pub invariant-loop-offset : goal.invariant-loop-offset
invariant-loop-offset l = CountingCopy l.file l.work l.copy l.count l.room l.offset l.left
