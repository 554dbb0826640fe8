use Rattle.requests.proofs.Lists.{run_over, listed_ends, listed_on}
use Rattle.requests.proofs.listed.side_by_side.Goals as goal

pub returns-then-is_none : goal.returns-then-is_none
returns-then-is_none g c =
    listed_ends g.T.Listed.read c.loop-at.invariant c.loop-at-test.true c.piece-own.ensures c.read.ensures c.is_none.ensures c.if-is_none.true

pub loop-at-preserved : goal.loop-at-preserved
loop-at-preserved g c =
    listed_on g.T.Listed.read c.loop-at.invariant c.loop-at-test.true c.piece-own.ensures c.read.ensures c.is_none.ensures c.if-is_none.false

pub returns : goal.returns
returns g c = run_over c.loop-at.invariant c.loop-at-test.false
