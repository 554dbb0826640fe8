use Rattle.leaves.proofs.Leaves.{Climbing}
use Rattle.leaves.proofs.leaf.ancestor.Given as goal

abbrev pub invariant-loop : goal.invariant-loop
invariant-loop l = Climbing l.sizes l.question l.steps l.height l.fn.leaf l.counter l.reached
