use Rattle.slim.proofs.Telling.{granted_outcome, granted_file, granted_numbers}
use Rattle.slim.proofs.calls.slim.Goals as goal

pub returns-clause-value : goal.returns-clause-value
returns-clause-value c =
    granted_outcome _ _ _ c.judge-judged.ensures c.if-judged-ne0.false c.slimmed.ensures

pub returns-clause-slimmer_after : goal.returns-clause-slimmer_after
returns-clause-slimmer_after c =
    granted_file _ _ _ c.judge-judged.ensures c.if-judged-ne0.false c.slimmed.ensures

pub returns-clause-numbers_after : goal.returns-clause-numbers_after
returns-clause-numbers_after c =
    granted_numbers _ _ _ c.judge-judged.ensures c.if-judged-ne0.false c.slimmed.ensures
