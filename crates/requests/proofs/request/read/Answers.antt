use Rattle.requests.proofs.Rows.{read_over, written_over, read_missing, written_missing, read_on}
use Rattle.requests.proofs.request.read.Goals as goal

pub returns-in_default-clause-value : goal.returns-in_default-clause-value
returns-in_default-clause-value c = read_missing c.loop-kind.invariant c.loop-kind-test.true _ c.in_default.ensures

pub returns-in_default-clause-values_after : goal.returns-in_default-clause-values_after
returns-in_default-clause-values_after c = written_missing c.loop-kind.invariant c.loop-kind-test.true _ c.in_default.ensures

pub loop-kind-preserved : goal.loop-kind-preserved
loop-kind-preserved c = read_on c.loop-kind.invariant c.loop-kind-test.true _ c.in-Some.ensures c.place-used.ensures

pub returns-clause-value : goal.returns-clause-value
returns-clause-value c = read_over c.loop-kind.invariant c.loop-kind-test.false

pub returns-clause-values_after : goal.returns-clause-values_after
returns-clause-values_after c = written_over c.loop-kind.invariant c.loop-kind-test.false
