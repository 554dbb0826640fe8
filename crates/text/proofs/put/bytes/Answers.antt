use Rattle.std.proofs.Common.{rules}
use Rattle.text.proofs.Written.{byte_more}
use Rattle.text.proofs.put.bytes.Goals as goal

pub loop-b-preserved : goal.loop-b-preserved
loop-b-preserved c = search (rules, byte_more)
