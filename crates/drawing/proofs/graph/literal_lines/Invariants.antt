use Rattle.drawing.proofs.Graphs.{Boxing}
use Rattle.drawing.proofs.graph.literal_lines.Given as goal

abbrev pub invariant-loop-literal : goal.invariant-loop-literal
invariant-loop-literal l =
    Boxing (record { text = l.text; index = l.index; file = l.file; bound = l.bound }) l.number l.made l.clause l.size l.fn.out l.from l.out l.at l.literal
