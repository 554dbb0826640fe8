use native.Mathlib.Omega.{arith}
use Rattle.asking.proofs.Lines.{count_one, count_none, count_over}
use Rattle.asking.proofs.report.literals_in.Goals as goal
use Rattle.asking.proofs.report.literals_in.Goals.{then-kind-eq-LITERAL, else-kind-eq-LITERAL}

pub loop-word-preserved : goal.loop-word-preserved
loop-word-preserved c =
    elim c.if-kind-eq-LITERAL.branch [
      | then-kind-eq-LITERAL w ↦ rw w.count-is (count_one c.loop-word.invariant c.loop-word-test.true c.kind.ensures w.if-kind-eq-LITERAL.true)
      | else-kind-eq-LITERAL w ↦ rw w.count-is (count_none c.loop-word.invariant c.loop-word-test.true c.kind.ensures w.if-kind-eq-LITERAL.false)
    ]

pub returns : goal.returns
returns c = count_over c.loop-word.invariant (omega arith)
