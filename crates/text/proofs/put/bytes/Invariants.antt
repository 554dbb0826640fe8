use Rattle.std.proofs.Common.{drop}
use Rattle.text.proofs.Putting.{Left}
use Rattle.text.proofs.put.bytes.Given as goal

abbrev pub invariant-loop-b : goal.invariant-loop-b
invariant-loop-b l = Left l.fn.out l.from l.text l.out l.at (drop l.b-index l.text)
