use Rattle.requests.proofs.Numbers.{digit_is}
use Rattle.requests.proofs.piece.digit.Goals as goal

pub returns : goal.returns
returns c = digit_is c.args.c c.to_digit.result (rw c.from.ensures at c.to_digit.ensures.value)
