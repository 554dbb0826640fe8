use Rattle.std.proofs.Common.{◌∙◌, ap}
use Rattle.std.specs.Prelude.{Err}
use Rattle.hukolearu.proofs.DoorLaws.{little_work, little_proof, high_bound, bad_file, good_file, small_question}
use Rattle.hukolearu.proofs.door.enter.Goals as goal

pub returns-then-inputs-lt-ROOM : goal.returns-then-inputs-lt-ROOM
returns-then-inputs-lt-ROOM c = ap Err c.placeless.ensures ∙ little_work _ _ c.if-inputs-lt-ROOM.true

pub returns-then-inputs : goal.returns-then-inputs
returns-then-inputs c = ap Err c.placeless-then-inputs.ensures ∙ little_proof _ _ c.if-inputs-lt-ROOM.false c.if-inputs.true

pub returns-then-inputs-gt-HIGHEST_BOUND : goal.returns-then-inputs-gt-HIGHEST_BOUND
returns-then-inputs-gt-HIGHEST_BOUND c =
    ap Err c.placeless-then-inputs-gt-HIGHEST_BOUND.ensures ∙ high_bound _ _ c.if-inputs-lt-ROOM.false c.if-inputs.false c.if-inputs-gt-HIGHEST_BOUND.true

pub returns-then-judged-ne0 : goal.returns-then-judged-ne0
returns-then-judged-ne0 c =
    bad_file _ _ c.if-inputs-lt-ROOM.false c.if-inputs.false c.if-inputs-gt-HIGHEST_BOUND.false c.judge-judged.ensures c.if-judged-ne0.true

pub overflow_cast-result : goal.overflow_cast-result
overflow_cast-result c = small_question _ c.judge-judged.ensures c.if-judged-ne0.false

pub returns : goal.returns
returns c = good_file _ _ c.if-inputs-lt-ROOM.false c.if-inputs.false c.if-inputs-gt-HIGHEST_BOUND.false c.judge-judged.ensures c.if-judged-ne0.false
