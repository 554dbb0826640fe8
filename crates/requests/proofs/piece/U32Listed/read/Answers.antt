use Rattle.std.proofs.Common.{◌∙◌}
use Rattle.requests.proofs.Numbers.{word_long, word_short}
use Rattle.requests.proofs.piece.U32Listed.read.Goals as goal

pub returns-then-piece-gt8 : goal.returns-then-piece-gt8
returns-then-piece-gt8 c = word_long c.args.piece.now c.if-piece-gt8.true

pub returns : goal.returns
returns c = c.value.ensures ∙ word_short c.args.piece.now c.if-piece-gt8.false
