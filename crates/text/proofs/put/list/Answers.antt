use Rattle.std.proofs.Common.{arith}
use Rattle.text.proofs.Written.{list_some}
use Rattle.text.proofs.put.list.Goals as goal

pub returns : goal.returns
returns c = list_some _ (λ e. omega (arith, c.in-len1-up.len_at_least)) c.hex-next.ensures c.spaced.ensures
