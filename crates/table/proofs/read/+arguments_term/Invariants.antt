-- The words left, twice; one more for the list of arguments, which calls the term reader at its own place.
use Rattle.std.proofs.Common.{◌+◌, ◌-◌, ◌*◌, length}
use Rattle.table.proofs.Terms.{Going}
use Rattle.table.proofs.read.+arguments_term.Given as goal

abbrev pub decreases-arguments : goal.decreases-arguments
decreases-arguments l = 2 * (length l.own.now - l.from.at) + 1

abbrev pub decreases-term : goal.decreases-term
decreases-term l = 2 * (length l.own.now - l.from.at)

abbrev pub invariant-arguments-loop-left : goal.invariant-arguments-loop-left
invariant-arguments-loop-left l = Going l.count l.own l.fn.from.at l.many l.fn.from.hash l.reached.at l.left l.reached.hash

abbrev pub decreases-arguments-loop-left : goal.decreases-arguments-loop-left
decreases-arguments-loop-left l = length l.own - l.reached.at
