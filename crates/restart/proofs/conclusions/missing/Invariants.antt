use Rattle.restart.proofs.Walks.{Walking}
use Rattle.restart.proofs.conclusions.missing.Given as goal

abbrev pub invariant-loop-here : goal.invariant-loop-here
invariant-loop-here l = Walking l.words l.question l.here l.passing
