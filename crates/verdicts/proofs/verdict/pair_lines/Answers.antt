use Rattle.verdicts.proofs.Saying.{pair_lines_is}
use Rattle.verdicts.proofs.verdict.pair_lines.Goals as goal

pub returns : goal.returns
returns c = pair_lines_is _ _ _ _ _ c.leaf_line-a.ensures c.partner_line.ensures
