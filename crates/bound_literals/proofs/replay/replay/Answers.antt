use Rattle.std.proofs.Common.{◌∙◌}
use Rattle.engine.proofs.Checker.Run.{question_clause}
use Rattle.bound_literals.proofs.Replaying.{replay_begin, replay_on, replay_refused, replay_done}
use Rattle.bound_literals.proofs.Slots.{replayed_false, replayed_true}
use Rattle.bound_literals.proofs.replay.replay.Goals as goal

pub begin-place-requires : goal.begin-place-requires
begin-place-requires c = (c.prepare.auto.work ∙ c.requires.room, question_clause _ c.requires.judged c.requires.asked)

pub loop-step-init : goal.loop-step-init
loop-step-init c = replay_begin _ c.requires.judged c.requires.asked c.begin-place.ensures.0 c.prepare.ensures c.begin-place.ensures.1 _

pub returns-in_default : goal.returns-in_default
returns-in_default c = replayed_false _ _ _ _ (replay_refused c.loop-step.invariant c.loop-step-test.true _ c.step_taken-judged.ensures c.in_default.not-Ok)

pub loop-step-preserved : goal.loop-step-preserved
loop-step-preserved c = replay_on c.loop-step.invariant c.loop-step-test.true c.step_taken-judged.ensures c.in-Ok.is

pub returns : goal.returns
returns c = replayed_true _ _ _ _ (replay_done c.loop-step.invariant c.loop-step-test.false)
