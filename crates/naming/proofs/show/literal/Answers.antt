use Rattle.std.proofs.Common.{rules}
use Rattle.naming.proofs.Showing.{seek_other, seek_later, seek_stop, seek_found, seek_laws}
use Rattle.naming.proofs.show.literal.Goals as goal

ruleset all = (rules, seek_laws)

pub loop-at-preserved-then-kind-ne2 : goal.loop-at-preserved-then-kind-ne2
loop-at-preserved-then-kind-ne2 c = seek_other c.loop-at.invariant c.loop-at-test.true c.kind.ensures c.if-kind-ne2.true

pub slice_bounds-result-end : goal.slice_bounds-result-end
slice_bounds-result-end c = seek_stop c.loop-at.invariant c.loop-at-test.true c.kind.ensures c.literal_end-end.ensures

pub returns-then-left-eq0 : goal.returns-then-left-eq0
returns-then-left-eq0 c = seek_found c.loop-at.invariant c.loop-at-test.true c.kind.ensures c.literal_end-end.ensures c.if-kind-ne2.false c.if-left-eq0.true

pub loop-at-preserved : goal.loop-at-preserved
loop-at-preserved c = seek_later c.loop-at.invariant c.loop-at-test.true c.kind.ensures c.if-kind-ne2.false c.if-left-eq0.false

pub returns : goal.returns
returns c = search all
