use Rattle.std.proofs.Common.{rules}
use Rattle.tptp.proofs.Calling.{asked}
use Rattle.tptp.proofs.call.read.Goals as goal

pub read_asked-requires : goal.read_asked-requires
read_asked-requires c = search (rules, asked)
