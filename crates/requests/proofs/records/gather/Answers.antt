use Rattle.requests.specs.Pieces.{pieces_at}
use Rattle.requests.proofs.DeskRecords.{records_put}
use Rattle.requests.proofs.records.gather.Goals as goal

pub returns : goal.returns
returns c = records_put (pieces_at c.args.line.now c.args.from) c.gather.ensures
