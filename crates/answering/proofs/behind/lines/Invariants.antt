use Rattle.names.specs.Noting.{names_at}
use Rattle.answering.proofs.Used.{Lining}
use Rattle.answering.proofs.behind.lines.Given as goal

abbrev pub invariant-loop-number : goal.invariant-loop-number
invariant-loop-number l = Lining (names_at l.text l.places) l.copies l.question l.initial.out l.fn.from l.out l.at l.number
