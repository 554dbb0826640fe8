use Rattle.std.proofs.Common.{◌∙◌}
use Rattle.requests.proofs.Rows.{number_missing, over_limit, number_read}
use Rattle.requests.proofs.request.number.Goals as goal

pub returns-in_err-said : goal.returns-in_err-said
returns-in_err-said c = c.from_residual.ensures ∙ number_missing c.args.limit c.args.line.now c.args.at c.in_err-said.ensures

pub returns-then-limit-said : goal.returns-then-limit-said
returns-then-limit-said c = over_limit c.args.limit c.args.line.now c.args.at c.in_ok-said.ensures c.if-limit-said.true

pub returns : goal.returns
returns c = number_read c.args.limit c.args.line.now c.args.at c.in_ok-said.ensures c.if-limit-said.false
