use Rattle.std.proofs.Common.{◌∙◌}
use Rattle.restart.proofs.Walks.{any_positive_lem, walk_missing, walk_on}
use Rattle.restart.proofs.conclusions.missing.Goals as goal

pub returns-then-not-concludes : goal.returns-then-not-concludes
returns-then-not-concludes c =
    walk_missing c.loop-here.invariant c.loop-here-test.true c.if-passing-ne0.false c.if-here-question.false (c.wide-passing.ensures ∙ c.following.ensures) (c.concludes.ensures ∙ any_positive_lem _) (rw c.if-not-concludes.true)

pub loop-here-preserved : goal.loop-here-preserved
loop-here-preserved c =
    walk_on c.loop-here.invariant c.loop-here-test.true c.if-passing-ne0.false c.if-here-question.false (c.wide-passing.ensures ∙ c.following.ensures) (c.concludes.ensures ∙ any_positive_lem _) (rw c.if-not-concludes.false)
