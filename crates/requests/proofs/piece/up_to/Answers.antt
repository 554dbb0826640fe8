use Rattle.std.proofs.Common.{◌∙◌}
use Rattle.requests.proofs.Lists.{until_mark}
use Rattle.requests.proofs.piece.up_to.Goals as goal

pub returns : goal.returns
returns c =
    c.front.ensures ∙ rw (c.unwrap_or.ensures, c.first.ensures, until_mark c.args.mark c.rest-tail.result.now, c.rest-tail.ensures)
