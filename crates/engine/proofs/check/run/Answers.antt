use Rattle.std.proofs.Common.{◌∙◌}
use Rattle.engine.proofs.Checker.Run.{question_clause, run_begin, run_on, run_refuses, run_open, run_done}
use Rattle.engine.proofs.check.run.Goals as goal

pub begin-place-requires : goal.begin-place-requires
begin-place-requires c = (c.prepare.auto.work ∙ c.requires.0, question_clause _ c.requires.1 c.requires.2)

pub loop-word-init : goal.loop-word-init
loop-word-init c = run_begin _ c.requires.1 c.requires.2 c.begin-place.ensures.0 c.prepare.ensures c.begin-place.ensures.1 _

pub loop-word-preserved : goal.loop-word-preserved
loop-word-preserved c = run_on c.loop-word.invariant c.loop-word-test.true c.step_taken.ensures c.in-Ok.is

pub returns-in-Err : goal.returns-in-Err
returns-in-Err c = run_refuses c.loop-word.invariant c.loop-word-test.true c.step_taken.ensures c.in-Err.is

pub returns-then-place-ne0 : goal.returns-then-place-ne0
returns-then-place-ne0 c = run_open c.loop-word.invariant c.loop-word-test.false c.if-place-ne0.true

pub returns : goal.returns
returns c = run_done c.loop-word.invariant c.loop-word-test.false c.if-place-ne0.false c.requires.2
