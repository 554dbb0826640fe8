use Rattle.std.proofs.Common.{rules}
use Rattle.engine.proofs.Nowhere.Seen.{walk_laws}
use Rattle.engine.proofs.vain.on_branch.Goals as goal

pub loop-at-preserved : goal.loop-at-preserved
loop-at-preserved c = search (rules, walk_laws)
