use Rattle.names.proofs.Same.{alike_over, other_over, other_byte, byte_alike, alike_end}
use Rattle.names.proofs.name.same.Goals as goal

pub returns-then-not-goes_on : goal.returns-then-not-goes_on
returns-then-not-goes_on c = alike_over c.loop-here.invariant c.loop-here-test.true c.goes_on.ensures c.if-not-goes_on.true c.ends.ensures

pub returns-then-text-there : goal.returns-then-text-there
returns-then-text-there c = other_over c.loop-here.invariant c.loop-here-test.true c.goes_on.ensures c.if-not-goes_on.false c.if-text-there.true

pub returns-then-d-c : goal.returns-then-d-c
returns-then-d-c c = other_byte c.loop-here.invariant c.loop-here-test.true c.goes_on.ensures c.if-not-goes_on.false c.if-text-there.false c.if-d-c.true

pub loop-here-preserved : goal.loop-here-preserved
loop-here-preserved c = byte_alike c.loop-here.invariant c.loop-here-test.true c.goes_on.ensures c.if-not-goes_on.false c.if-text-there.false c.if-d-c.false

pub returns : goal.returns
returns c = alike_end c.loop-here.invariant c.loop-here-test.false c.ends-2.ensures
