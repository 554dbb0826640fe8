-- The words of the copy are written one after the other.
use Rattle.std.proofs.Common.{arith}
use Rattle.answers.proofs.WritingTerms.{copy_written_begin, copy_written, copy_writes_inside, copy_writes_stands, copy_writes_room, copy_writes_on}
use Rattle.answers.proofs.answer.write_copy.Goals as goal

pub loop-offset-init : goal.loop-offset-init
loop-offset-init c = copy_written_begin c.requires.0 c.requires.1 c.word_at.ensures c.following-count.ensures

pub word_at-word-requires : goal.word_at-word-requires
word_at-word-requires c = copy_writes_inside c.loop-offset.invariant (omega arith)

pub write_word-written-requires : goal.write_word-written-requires
write_word-written-requires c = (
  c.loop-offset.invariant.good,
  copy_writes_stands c.loop-offset.invariant (omega arith) c.word_at-word.ensures,
  copy_writes_room c.loop-offset.invariant (omega arith) c.word_at-word.ensures c.requires.2,
)

pub loop-offset-preserved : goal.loop-offset-preserved
loop-offset-preserved c =
    copy_writes_on c.loop-offset.invariant (omega arith) c.word_at-word.ensures c.write_word-written.auto.work c.write_word-written.auto.answer c.write_word-written.ensures

pub returns : goal.returns
returns c = copy_written c.loop-offset.invariant (omega arith)
