use mathlib.Core.Path.{◌∙◌}
use Rattle.leaves.proofs.Leaves.{above_open, above_none}
use Rattle.leaves.proofs.leaf.above.Goals as goal

pub returns-in_err-leaf : goal.returns-in_err-leaf
returns-in_err-leaf c = c.from_residual.ensures ∙ above_none _ _ _ c.in_err-leaf.was

pub returns : goal.returns
returns c = above_open _ _ _ c.in_ok-leaf.was c.hung_under.ensures
