use Rattle.slim.proofs.Comparing.{words_differ, compare_next, compare_done}
use Rattle.slim.proofs.dropping.same_words.Goals as goal

pub returns-then-word-right : goal.returns-then-word-right
returns-then-word-right c = words_differ c.args.left.now c.args.right.now c.loop-i.i c.loop-i.invariant c.loop-i-test.true c.if-word-right.true

pub loop-i-preserved : goal.loop-i-preserved
loop-i-preserved c = compare_next c.args.left.now c.args.right.now c.loop-i.i c.loop-i.invariant c.loop-i-test.true c.if-word-right.false

pub returns : goal.returns
returns c = compare_done c.args.left.now c.args.right.now c.loop-i.i c.loop-i.invariant c.loop-i-test.false
