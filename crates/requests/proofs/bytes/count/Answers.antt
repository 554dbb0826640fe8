use Rattle.std.proofs.Common.{rules}
use Rattle.requests.proofs.Pairs.{bytes_counted}
use Rattle.requests.proofs.bytes.count.Goals as goal

pub returns : goal.returns
returns c = bytes_counted c.args.line.now c.args.from c.gather.ensures (search rules)
