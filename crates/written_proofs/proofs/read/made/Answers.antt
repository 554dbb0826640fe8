use Rattle.written_proofs.proofs.Pieces.{made_wrong, made_step}
use Rattle.written_proofs.proofs.read.made.Goals as goal

pub returns-then-w : goal.returns-then-w
returns-then-w c = made_wrong c.args.step c.encode-w.ensures c.if-w.true

pub returns : goal.returns
returns c = made_step c.args.step c.encode-w.ensures c.if-w.false
