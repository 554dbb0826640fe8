use Rattle.engine.proofs.Nowhere.Seen.{Walking}
use Rattle.engine.proofs.vain.on_branch.Given as goal

abbrev pub invariant-loop-at : goal.invariant-loop-at
invariant-loop-at l = Walking l.file l.work l.word l.head l.at

abbrev pub decreases-loop-at : goal.decreases-loop-at
decreases-loop-at l = l.at
