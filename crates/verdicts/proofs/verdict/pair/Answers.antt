use Rattle.std.proofs.Common.{rules}
use Rattle.verdicts.proofs.Saying.{pair_laws}
use Rattle.verdicts.proofs.verdict.pair.Goals as goal

pub returns-then-fits : goal.returns-then-fits
returns-then-fits c = search (rules, pair_laws)

pub returns : goal.returns
returns c = search (rules, pair_laws)
