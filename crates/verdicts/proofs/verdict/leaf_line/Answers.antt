use Rattle.verdicts.proofs.Saying.{leaf_none, leaf_open}
use Rattle.verdicts.proofs.verdict.leaf_line.Goals as goal

pub returns-in_default : goal.returns-in_default
returns-in_default c = leaf_none _ _ _ c.in_default.is c.bytes-a.ensures c.bytes.ensures

pub returns : goal.returns
returns c = leaf_open _ _ _ c.in-Some.is c.bytes-a.ensures c.literal-b.ensures c.of-c.ensures c.there.ensures
