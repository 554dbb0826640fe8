use Rattle.written_proofs.proofs.Pieces.{few_front}
use Rattle.written_proofs.proofs.write.proof.Goals as goal

pub lines-requires : goal.lines-requires
lines-requires c = few_front c.args.places.now c.front.ensures
