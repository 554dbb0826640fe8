use Rattle.written_proofs.proofs.Pieces.{number_none, number_some}
use Rattle.std.proofs.Common.{◌∙◌}
use Rattle.written_proofs.proofs.read.number.Goals as goal

pub returns-in_err-decimal : goal.returns-in_err-decimal
returns-in_err-decimal c = c.from_residual.ensures ∙ number_none c.args.own.now c.decimal.ensures c.in_err-decimal.was

pub returns : goal.returns
returns c = number_some c.args.own.now c.decimal.ensures c.in_ok-decimal.was
