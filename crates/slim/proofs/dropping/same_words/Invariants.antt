use Rattle.slim.proofs.Comparing.{Comparing}
use Rattle.slim.proofs.dropping.same_words.Given as goal

abbrev pub invariant-loop-i : goal.invariant-loop-i
invariant-loop-i l = Comparing l.left l.right l.i
