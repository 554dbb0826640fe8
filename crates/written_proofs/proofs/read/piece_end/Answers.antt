use Rattle.written_proofs.proofs.Pieces.{piece_position}
use Rattle.written_proofs.proofs.read.piece_end.Goals as goal

pub returns : goal.returns
returns c = rw (c.unwrap_or.ensures, c.first_blank.ensures, piece_position c.rest-rest.result.now, c.rest-rest.ensures)
