use Rattle.index.proofs.Plain.{passing_end, passing_found, passing_on}
use Rattle.index.proofs.notes.past_plain.Goals as goal

pub returns-then-kind-gt1 : goal.returns-then-kind-gt1
returns-then-kind-gt1 c = passing_found c.requires.1 c.args.scan c.loop-at.invariant c.loop-at-test.true c.wide.ensures c.kind.ensures c.if-kind-gt1.true c.moved.ensures

pub loop-at-preserved : goal.loop-at-preserved
loop-at-preserved c = passing_on c.requires.1 c.args.scan c.loop-at.invariant c.loop-at-test.true c.wide.ensures c.kind.ensures c.if-kind-gt1.false

pub returns : goal.returns
returns c = passing_end c.requires.1 c.args.scan c.loop-at.invariant c.loop-at-test.false c.moved-2.ensures
