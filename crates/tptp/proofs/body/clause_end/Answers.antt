use Rattle.std.proofs.Common.{rules}
use Rattle.tptp.proofs.Spans.{span_laws, span_over, span_on}
use Rattle.tptp.proofs.body.clause_end.Goals as goal

ruleset all = (rules, span_laws)

pub returns-then-kind-eq3 : goal.returns-then-kind-eq3
returns-then-kind-eq3 c = search all

pub loop-end-preserved : goal.loop-end-preserved
loop-end-preserved c = span_on c.loop-end.invariant c.loop-end-test.true c.kind.ensures c.if-kind-eq3.false

pub returns : goal.returns
returns c = span_over c.loop-end.invariant c.loop-end-test.false (c.loop-end.auto.end-end c.requires)
