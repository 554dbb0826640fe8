use Rattle.clausetext.proofs.StuckLoop.{seek_found, seek_next}
use Rattle.clausetext.proofs.stuck.question_name.Goals as goal

pub returns-then-next-many : goal.returns-then-next-many
returns-then-next-many c =
    seek_found c.loop-at.invariant c.loop-at-test.true c.advance.ensures c.in-Some.is c.name_begun-name.ensures c.if-next-many.true

pub loop-at-preserved : goal.loop-at-preserved
loop-at-preserved c =
    seek_next c.loop-at.invariant c.loop-at-test.true c.advance.ensures c.in-Some.is c.name_begun-name.ensures c.if-next-many.false
