-- The words left, three times; more for arguments and further arguments, which call at their own place.
use Rattle.std.proofs.Common.{◌+◌, ◌-◌, ◌*◌, length}
use Rattle.clauselines.proofs.Terms.{Going}
use Rattle.clauselines.proofs.line.+arguments_further_term.Given as goal

abbrev pub decreases-arguments : goal.decreases-arguments
decreases-arguments l = 3 * (length l.own.now - l.at) + 2

abbrev pub decreases-further : goal.decreases-further
decreases-further l = 3 * (length l.own.now - l.at) + 1

abbrev pub decreases-term : goal.decreases-term
decreases-term l = 3 * (length l.own.now - l.at)

abbrev pub invariant-further-loop : goal.invariant-further-loop
invariant-further-loop l = Going l.own l.at l.many l.fn.out l.from l.reached.word (l.many - l.counter) l.out l.reached.byte
