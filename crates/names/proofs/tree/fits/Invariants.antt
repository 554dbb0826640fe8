use Rattle.names.proofs.Using.{Fitting}
use Rattle.names.proofs.tree.fits.Given as goal

abbrev pub invariant-loop-i : goal.invariant-loop-i
invariant-loop-i l = Fitting l.text l.starts l.words l.kind l.left l.i
