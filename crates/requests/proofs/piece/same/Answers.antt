use Rattle.std.proofs.Common.{◌∙◌}
use Rattle.requests.proofs.Lists.{same_is}
use Rattle.requests.proofs.piece.same.Goals as goal

pub returns : goal.returns
returns c = c.eq.ensures ∙ same_is c.args.a.now c.args.b.now
