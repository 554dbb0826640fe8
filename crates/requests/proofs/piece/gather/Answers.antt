use Rattle.requests.specs.Pieces.{pieces_at}
use Rattle.requests.proofs.Lists.{words_put}
use Rattle.requests.proofs.piece.gather.Goals as goal

pub returns : goal.returns
returns c = words_put (pieces_at c.args.line.now c.args.from) c.gather.ensures
