use Rattle.drawing.proofs.Graphs.{Lining}
use Rattle.drawing.proofs.graph.lines.Given as goal

abbrev pub invariant-loop-other : goal.invariant-loop-other
invariant-loop-other l = Lining l.number l.literal l.below l.entered l.size l.fn.out l.from l.out l.at l.other
