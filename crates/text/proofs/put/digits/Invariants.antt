use Rattle.std.proofs.Common.{◌-◌}
use Rattle.text.specs.Digits.{digits_of}
use Rattle.text.proofs.Putting.{Left}
use Rattle.text.proofs.Written.{Highest}
use Rattle.text.proofs.put.digits.Given as goal

abbrev pub invariant-loop : goal.invariant-loop
invariant-loop l = Highest l.base (l.count - l.counter) l.power × Left l.fn.out l.from (digits_of l.base l.count l.n) l.out l.at (digits_of l.base (l.count - l.counter) l.n)
