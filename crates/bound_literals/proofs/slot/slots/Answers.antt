use Rattle.bound_literals.proofs.Slots.{slots_over, slots_on}
use Rattle.bound_literals.proofs.slot.slots.Goals as goal

pub loop-i-preserved : goal.loop-i-preserved
loop-i-preserved c = slots_on c.loop-i.invariant c.loop-i-test.true c.slot-at.ensures

pub returns : goal.returns
returns c = slots_over c.loop-i.invariant c.loop-i-test.false
