-- The last binding is taken back as long as there are too many.
use Rattle.std.proofs.Common.{refl}
use Rattle.unification.proofs.Undo.{pop_on, pop_done}
use Rattle.unification.proofs.unify.undo.Goals as goal

pub loop-i-preserved : goal.loop-i-preserved
loop-i-preserved c = λ f h. pop_on (c.loop-i.invariant f h) c.loop-i-test.true c.wide.ensures refl c.wide-in-loop-i.ensures

pub returns : goal.returns
returns c = λ f h. pop_done (c.loop-i.invariant f h) c.loop-i-test.false
