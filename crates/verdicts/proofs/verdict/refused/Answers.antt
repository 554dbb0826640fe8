use Rattle.std.proofs.Common.{rules}
use Rattle.verdicts.proofs.Saying.{refused_is}
use Rattle.verdicts.proofs.verdict.refused.Goals as goal

pub returns : goal.returns
returns c = refused_is _ _ _ _ _ (search rules) c.sizes.ensures c.refused_with.ensures
