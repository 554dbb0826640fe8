use Rattle.answers.proofs.Repeats.{Looking}
use Rattle.answers.proofs.once.said_before.Given as goal

abbrev pub invariant-loop-earlier : goal.invariant-loop-earlier
invariant-loop-earlier l = Looking l.file l.fn.work l.work l.copy l.earlier
