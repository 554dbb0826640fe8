use Rattle.written_proofs.proofs.Names.{seek_several, seek_one, seek_on, seek_over}
use Rattle.written_proofs.proofs.clause.only.Goals as goal

pub returns-then-stands : goal.returns-then-stands
returns-then-stands c = seek_several c.args.text.now c.args.places.now c.args.own.now c.loop-i-test.true c.wide.ensures c.at.ensures c.same.ensures c.loop-i.invariant c.if-same.true c.stands.ensures c.if-stands.true

pub returns-then-same : goal.returns-then-same
returns-then-same c = seek_one c.args.text.now c.args.places.now c.args.own.now c.loop-i-test.true c.wide.ensures c.at.ensures c.same.ensures c.loop-i.invariant c.if-same.true c.stands.ensures c.if-stands.false

pub loop-i-preserved : goal.loop-i-preserved
loop-i-preserved c = seek_on c.args.text.now c.args.places.now c.args.own.now c.loop-i-test.true c.wide.ensures c.at.ensures c.same.ensures c.loop-i.invariant c.if-same.false

pub returns : goal.returns
returns c = seek_over c.args.text.now c.args.places.now c.args.own.now c.loop-i.invariant c.loop-i-test.false
