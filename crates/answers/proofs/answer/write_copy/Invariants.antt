use Rattle.answers.specs.Writing.{copy_items}
use Rattle.answers.proofs.WritingTerms.{WritingCopy}
use Rattle.answers.proofs.answer.write_copy.Given as goal

abbrev pub invariant-loop-offset : goal.invariant-loop-offset
invariant-loop-offset l = WritingCopy l.file l.fn.work l.fn.answer l.fn.begun (copy_items l.file l.fn.work l.copy) l.copy l.count l.work l.answer l.written l.offset
