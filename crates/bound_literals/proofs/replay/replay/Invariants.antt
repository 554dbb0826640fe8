-- The steps before an index are taken.
use Rattle.bound_literals.proofs.Replaying.{Replaying}
use Rattle.bound_literals.proofs.replay.replay.Given as goal

abbrev pub invariant-loop-step : goal.invariant-loop-step
invariant-loop-step l = Replaying l.file l.work l.conditions l.steps l.place l.step-index
