use Rattle.results.proofs.Kept.{front_not, back_left}
use Rattle.results.proofs.buffers.work_kept.Goals as goal

pub returns-then-all : goal.returns-then-all
returns-then-all c =
    back_left c.args.status c.args.work.now c.if-status-eq1.false c.if-work-lt16384.false c.split_at.ensures.front c.split_at.ensures.back c.all.ensures c.if-all.true
    c.untouched-then-all.ensures

pub returns-else-all : goal.returns-else-all
returns-else-all c =
    front_not c.args.status c.args.work.now c.if-status-eq1.false c.if-work-lt16384.false c.split_at.ensures.front c.split_at.ensures.back c.all.ensures c.if-all.false
