use Rattle.std.proofs.Common.{drop}
use Rattle.text.specs.Digits.{spaced_text}
use Rattle.text.proofs.Putting.{Left}
use Rattle.text.proofs.put.spaced.Given as goal

abbrev pub invariant-loop-w : goal.invariant-loop-w
invariant-loop-w l = Left l.fn.out l.from (spaced_text l.list) l.out l.at (spaced_text (drop l.w-index l.list))
