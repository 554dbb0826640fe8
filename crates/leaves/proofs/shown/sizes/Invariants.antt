use Rattle.leaves.proofs.Showing.{Sizing}
use Rattle.leaves.proofs.shown.sizes.Given as goal

abbrev pub invariant-loop-number : goal.invariant-loop-number
invariant-loop-number l = Sizing l.file l.fn.out l.out l.at l.number
