use Rattle.std.proofs.Common.{drop}
use Rattle.text.specs.Digits.{pairs_text}
use Rattle.text.proofs.Putting.{Left}
use Rattle.text.proofs.put.pairs.Given as goal

abbrev pub invariant-loop-b : goal.invariant-loop-b
invariant-loop-b l = Left l.fn.out l.from (pairs_text l.list) l.out l.at (pairs_text (drop l.b-index l.list))
