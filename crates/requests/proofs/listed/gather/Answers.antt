use Rattle.requests.proofs.Lists.{gather_over, gather_ends, gather_on}
use Rattle.requests.proofs.listed.gather.Goals as goal

pub returns-in_default : goal.returns-in_default
returns-in_default g c =
    let t = g.T.Listed in
    gather_ends t.read t.in_words c.args.line.now c.loop-at.at c.loop-at.invariant c.loop-at-test.true c.piece-own.ensures c.read.ensures c.in_default.is

pub loop-at-preserved : goal.loop-at-preserved
loop-at-preserved g c =
    let t = g.T.Listed in
    gather_on t.read t.in_words c.args.line.now c.loop-at.at c.loop-at.invariant c.loop-at-test.true c.piece-own.ensures c.read.ensures c.in-Some.is c.put-used.ensures

pub returns : goal.returns
returns g c = let t = g.T.Listed in gather_over t.read t.in_words c.args.line.now c.loop-at.at c.loop-at.invariant c.loop-at-test.false
