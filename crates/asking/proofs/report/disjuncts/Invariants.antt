use lib.ListN.{length, drop}
use Prim.Native.Nat.{◌-◌, ◌≤◌}
use Rattle.text.proofs.Putting.{Left}
use Rattle.asking.specs.Report.{disjuncts_text}
use Rattle.asking.proofs.report.disjuncts.Given as goal

abbrev pub invariant-loop : goal.invariant-loop
invariant-loop l =
    (l.start ≤ length l.answer)
    × Left l.initial.out l.fn.from (disjuncts_text l.count l.literals l.answer) l.out l.at (disjuncts_text (l.count - l.counter) l.literals (drop l.start l.answer))
