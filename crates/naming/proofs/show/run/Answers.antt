use Rattle.std.proofs.Common.{rules}
use Rattle.naming.proofs.Showing.{run_variable, run_function, run_literal, run_laws}
use Rattle.naming.proofs.show.run.Goals as goal

ruleset all = (rules, run_laws)

pub loop-w-init : goal.loop-w-init
loop-w-init c = search all

pub loop-w-preserved-then-kind-eq0 : goal.loop-w-preserved-then-kind-eq0
loop-w-preserved-then-kind-eq0 c = let a = c.args in run_variable a.text.now a.index.now a.variables.now a.atoms a.own.now a.out.now a.from c.loop-w.invariant c.loop-w-test.true c.requires.1 c.kind-kind.ensures c.if-kind-eq0.true c.number.ensures c.variable-named.ensures c.leave-reached.ensures

pub loop-w-preserved-then-kind-eq1 : goal.loop-w-preserved-then-kind-eq1
loop-w-preserved-then-kind-eq1 c = let a = c.args in run_function a.text.now a.index.now a.variables.now a.atoms a.own.now a.out.now a.from c.loop-w.invariant c.loop-w-test.true c.requires.1 c.kind-kind.ensures c.if-kind-eq1.true c.symbol.ensures c.function-named.ensures c.arity.ensures c.enter-reached.ensures

pub loop-w-preserved : goal.loop-w-preserved
loop-w-preserved c = let a = c.args in run_literal a.text.now a.index.now a.variables.now a.atoms a.own.now a.out.now a.from c.loop-w.invariant c.loop-w-test.true c.requires.1 c.kind-kind.ensures c.if-kind-eq0.false c.if-kind-eq1.false c.begin-named.ensures c.arity-in-loop-w.ensures c.enter-reached-in-loop-w.ensures

pub returns : goal.returns
returns c = search all
