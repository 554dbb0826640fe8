use Rattle.leaves.proofs.Leaves.{Seeking}
use Rattle.leaves.proofs.leaf.leftmost.Given as goal

abbrev pub invariant-loop-i : goal.invariant-loop-i
invariant-loop-i l = Seeking l.sizes l.question l.steps l.done l.n l.i
