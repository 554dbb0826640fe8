use Rattle.std.proofs.Common.{refl}
use Rattle.bound_literals.proofs.Slots.{slot_is}
use Rattle.bound_literals.proofs.slot.slot.Goals as goal

pub returns : goal.returns
returns c = slot_is c.held-own.ensures refl c.words-next.ensures c.word.ensures
