use lib.ListN.{length}
use mathlib.Core.Path.{◌≡◌, ◌∙◌}
use native.Mathlib.Omega.{arith}
use Rattle.asking.proofs.Lines.{pass_over, pass_word, pass_stops, pass_one}
use Rattle.asking.proofs.report.disjunct_length.Goals as goal
use Rattle.asking.proofs.report.disjunct_length.Goals.{then-kind-eq-LITERAL+else-left-eq0, else-kind-eq-LITERAL}

pub returns-then-left-eq0 : goal.returns-then-left-eq0
returns-then-left-eq0 c = pass_stops c.loop-i.invariant c.loop-i-test.true c.kind.ensures c.if-kind-eq-LITERAL.true c.if-left-eq0.true

pub loop-i-preserved : goal.loop-i-preserved
loop-i-preserved c =
    elim c.if-kind-eq-LITERAL.branch [
      | then-kind-eq-LITERAL+else-left-eq0 w ↦ rw w.left-is (pass_one c.loop-i.invariant c.loop-i-test.true c.kind.ensures w.if-kind-eq-LITERAL.true w.if-left-eq0.false)
      | else-kind-eq-LITERAL w ↦ rw w.left-is (pass_word c.loop-i.invariant c.loop-i-test.true c.kind.ensures w.if-kind-eq-LITERAL.false)
    ]

pub returns : goal.returns
returns c =
    let all : length c.args.answer.now ≡ c.loop-i.i = omega (arith, c.loop-i.invariant.within) in
    all ∙ pass_over c.loop-i.invariant (omega arith)
