use Rattle.slim.proofs.Marking.{Looking}
use Rattle.slim.proofs.dropping.mark_words.Given as goal

abbrev pub invariant-loop-w : goal.invariant-loop-w
invariant-loop-w l = Looking l.words l.fn.marks l.w-index l.marks
