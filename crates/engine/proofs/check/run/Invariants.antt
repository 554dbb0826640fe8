-- The steps before an index are taken, and what is left of the offered steps decides.
use Rattle.engine.proofs.Checker.Run.{Running}
use Rattle.engine.proofs.check.run.Given as goal

abbrev pub invariant-loop-word : goal.invariant-loop-word
invariant-loop-word l = Running l.file l.work l.conditions l.noted l.offered l.place l.word-index
