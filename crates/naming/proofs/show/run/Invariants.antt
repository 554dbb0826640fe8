use Rattle.naming.specs.Shown.{names_in}
use Rattle.naming.proofs.Showing.{Running}
use Rattle.naming.proofs.show.run.Given as goal

abbrev pub invariant-loop-w : goal.invariant-loop-w
invariant-loop-w l = Running (names_in l.text l.index l.variables) l.atoms l.own l.fn.out l.from l.left l.out l.depth l.before l.at l.w-index
