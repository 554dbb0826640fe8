use Rattle.asking.proofs.Lines.{Passing}
use Rattle.asking.proofs.report.disjunct_length.Given as goal

abbrev pub invariant-loop-i : goal.invariant-loop-i
invariant-loop-i l = Passing l.answer l.fn.literals l.i l.left
