use Rattle.slim.proofs.Copying.{Numbered}
use Rattle.slim.proofs.writing.number.Given as goal

abbrev pub invariant-loop-number : goal.invariant-loop-number
invariant-loop-number l = Numbered l.present l.fn.numbers l.number l.count l.numbers
