use Rattle.std.proofs.Common.{rules}
use Rattle.text.proofs.Written.{spaced_more}
use Rattle.text.proofs.put.spaced.Goals as goal

pub loop-w-preserved : goal.loop-w-preserved
loop-w-preserved c = search (rules, spaced_more)
