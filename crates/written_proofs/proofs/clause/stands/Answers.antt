use Rattle.written_proofs.proofs.Names.{stand_met, stand_on, stand_over}
use Rattle.written_proofs.proofs.clause.stands.Goals as goal

pub returns-then-same : goal.returns-then-same
returns-then-same c = stand_met c.args.text.now c.args.places.now c.args.own.now c.loop-place-test.true c.wide.ensures c.at.ensures c.same.ensures c.loop-place.invariant c.if-same.true

pub loop-place-preserved : goal.loop-place-preserved
loop-place-preserved c = stand_on c.args.text.now c.args.places.now c.args.own.now c.loop-place-test.true c.wide.ensures c.at.ensures c.same.ensures c.loop-place.invariant c.if-same.false

pub returns : goal.returns
returns c = stand_over c.args.text.now c.args.places.now c.args.own.now c.loop-place.invariant c.loop-place-test.false
