use Rattle.table.proofs.Building.{Copying}
use Rattle.table.proofs.build.append.Given as goal

abbrev pub invariant-loop-i : goal.invariant-loop-i
invariant-loop-i l = Copying l.fn.file l.at l.words l.i l.file
