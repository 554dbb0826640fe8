use Rattle.std.proofs.Common.{rules}
use Rattle.slim.proofs.Marking.{look_laws}
use Rattle.slim.proofs.dropping.mark_words.Goals as goal

pub loop-w-preserved-then-kind-ne2 : goal.loop-w-preserved-then-kind-ne2
loop-w-preserved-then-kind-ne2 c = search (rules, look_laws)

pub loop-w-preserved : goal.loop-w-preserved
loop-w-preserved c = search (rules, look_laws)
