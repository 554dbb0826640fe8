use borrow.Author.Rules.{rules}
use mathlib.Core.Bool.{not}
use mathlib.Core.Path.{ap}
use Rattle.leaves.proofs.Binding.{untold, told_is}
use Rattle.leaves.proofs.bound.told.Goals as goal

pub returns-then-not-is_told : goal.returns-then-not-is_told
returns-then-not-is_told c = untold _ _ _ _ _ _ c.is_told.ensures (ap not c.if-not-is_told.true) _ _

pub returns : goal.returns
returns c = told_is _ _ _ _ _ _ c.is_told.ensures (ap not c.if-not-is_told.false) c.bytes-a.ensures c.literal_bound-b.ensures c.bytes.ensures
