use Rattle.std.proofs.Common.{rules}
use Rattle.text.proofs.Putting.{then}
use Rattle.text.proofs.put.field.Goals as goal

pub returns : goal.returns
returns c = search (rules, then)
