use Rattle.std.proofs.Common.{rules}
use Rattle.text.proofs.Written.{pairs_more}
use Rattle.text.proofs.put.pairs.Goals as goal

pub loop-b-preserved : goal.loop-b-preserved
loop-b-preserved c = search (rules, pairs_more)
