use Rattle.text.specs.Digits.{digits_of, significant}
use Rattle.text.proofs.Written.{Counting}
use Rattle.text.proofs.put.counted.Given as goal

abbrev pub invariant-loop-left : goal.invariant-loop-left
invariant-loop-left l = Counting l.n l.left l.power l.fn.out l.from (significant (digits_of 10 l.places l.n)) l.out l.at
