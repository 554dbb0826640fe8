use Rattle.answers.proofs.Counting.{all_begin, all_done, all_other, all_over, all_on}
use Rattle.answers.proofs.answer.room_after.Goals as goal

pub loop-copy-init : goal.loop-copy-init
loop-copy-init c = all_begin c.requires

pub loop-copy-preserved-then-work-wide-eq0 : goal.loop-copy-preserved-then-work-wide-eq0
loop-copy-preserved-then-work-wide-eq0 c = all_other c.requires c.loop-copy.invariant c.loop-copy-test.true c.wide.ensures c.if-work-wide-eq0.true

pub returns-in_err-left : goal.returns-in_err-left
returns-in_err-left c =
    rw c.from_residual.ensures
    (all_over c.requires c.loop-copy.invariant c.loop-copy-test.true c.wide.ensures c.if-work-wide-eq0.false _ c.room_after_copy.ensures c.in_err-left.was)

pub loop-copy-preserved : goal.loop-copy-preserved
loop-copy-preserved c =
    all_on c.requires c.loop-copy.invariant c.loop-copy-test.true c.wide.ensures c.if-work-wide-eq0.false _ c.room_after_copy.ensures c.in_ok-left.was

pub returns : goal.returns
returns c = all_done c.requires c.loop-copy.invariant c.loop-copy-test.false
