use Rattle.verdicts.proofs.Saying.{open_text_is}
use Rattle.verdicts.proofs.verdict.«open».Goals as goal

pub returns : goal.returns
returns c = open_text_is _ _ _ _ c.field-a.ensures c.bytes-b.ensures c.leaf_line.ensures
