use Rattle.answering.proofs.Looking.{Looking}
use Rattle.answering.proofs.look.look.Given as goal

abbrev pub invariant-loop-bound : goal.invariant-loop-bound
invariant-loop-bound g l =
    Looking l.file l.limit l.budget l.initial.proof l.initial.answer l.initial.work l.proof l.answer l.work l.bound l.used
