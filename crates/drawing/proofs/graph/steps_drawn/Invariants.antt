use Rattle.drawing.proofs.Graphs.{Drawing}
use Rattle.drawing.proofs.graph.steps_drawn.Given as goal

abbrev pub invariant-loop-i : goal.invariant-loop-i
invariant-loop-i l =
    Drawing (record { text = l.text; index = l.index; file = l.file; bound = l.bound }) l.sizes l.question l.steps l.fn.out l.from l.out l.at l.i
