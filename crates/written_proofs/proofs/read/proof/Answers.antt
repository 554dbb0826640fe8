use Rattle.written_proofs.proofs.Pieces.{few_front}
use Rattle.written_proofs.proofs.read.proof.Goals as goal

pub pieces-requires : goal.pieces-requires
pieces-requires c = few_front c.args.places.now c.front.ensures
