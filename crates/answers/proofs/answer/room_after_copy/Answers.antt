use Rattle.std.proofs.Common.{arith}
use Rattle.answers.proofs.CopyWords.{copy_inside}
use Rattle.answers.proofs.Counting.{copy_begin, copy_done, copy_over, copy_word, copy_stands, copy_on}
use Rattle.answers.proofs.answer.room_after_copy.Goals as goal

pub loop-offset-init : goal.loop-offset-init
loop-offset-init c = copy_begin c.requires.0 c.requires.1 c.word_at.ensures c.following-count.ensures

pub word_at-word-requires : goal.word_at-word-requires
word_at-word-requires c = copy_word c.requires.0 c.requires.1 c.loop-offset.invariant (omega arith)

pub room_after_word-requires : goal.room_after_word-requires
room_after_word-requires c = (c.requires.0, copy_stands c.requires.0 c.requires.1 c.loop-offset.invariant (omega arith) c.word_at-word.ensures)

pub returns-in_err-left : goal.returns-in_err-left
returns-in_err-left c =
    rw c.from_residual.ensures
    (copy_over c.requires.0 c.requires.1 c.loop-offset.invariant (omega arith) c.word_at-word.ensures _ c.room_after_word.ensures c.in_err-left.was)

pub loop-offset-preserved : goal.loop-offset-preserved
loop-offset-preserved c = copy_on c.requires.0 c.requires.1 c.loop-offset.invariant (omega arith) c.word_at-word.ensures _ c.room_after_word.ensures c.in_ok-left.was

pub returns : goal.returns
returns c = copy_done c.requires.0 c.requires.1 c.loop-offset.invariant (omega arith)
