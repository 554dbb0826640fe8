use Rattle.text.proofs.Written.{byte_more, byte_last}
use Rattle.bound_literals.proofs.slot.words.Goals as goal

pub loop-word-preserved : goal.loop-word-preserved
loop-word-preserved c = byte_more _ _ c.loop-word.invariant c.loop-word-test.true c.word-at.ensures

pub returns : goal.returns
returns c = byte_last _ _ c.loop-word.invariant c.loop-word-test.false
