-- The bounds so far said "none".
use Rattle.smallest.proofs.Bounds.{Running}
use Rattle.smallest.proofs.tried.Given as goal

abbrev pub invariant-loop-bound : goal.invariant-loop-bound
invariant-loop-bound l = Running l.file l.work l.fn.proof l.fn.answer l.proof l.answer l.question l.limit l.budget l.bound l.used
