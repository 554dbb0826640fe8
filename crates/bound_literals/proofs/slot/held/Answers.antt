use Rattle.std.proofs.Common.{refl}
use Rattle.bound_literals.proofs.Seeking.{held_none, held_missing, held_there}
use Rattle.bound_literals.proofs.slot.held.Goals as goal

pub returns-then-work-copy : goal.returns-then-work-copy
returns-then-work-copy c = held_none _ _ _ _ _ refl c.if-work-copy.true

pub returns-in-Some : goal.returns-in-Some
returns-in-Some c = held_there _ _ _ _ c.if-work-copy.false c.in-Some.ensures c.literal.ensures

pub returns-in-None : goal.returns-in-None
returns-in-None c = held_missing _ _ _ _ c.if-work-copy.false c.in-None.ensures _
