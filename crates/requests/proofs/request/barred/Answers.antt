use Rattle.std.proofs.Common.{rules}
use Rattle.requests.proofs.Rows.{mark_fits, list_barred, no_bar}
use Rattle.requests.proofs.request.barred.Goals as goal

pub overflow_add-result : goal.overflow_add-result
overflow_add-result c = mark_fits c.args.line.now c.args.at _ c.is.ensures c.if-is.true (search rules)

pub returns-then-is : goal.returns-then-is
returns-then-is c = list_barred c.args.line.now c.args.at c.is.ensures c.if-is.true

pub returns : goal.returns
returns c = no_bar c.args.line.now c.args.at c.is.ensures c.if-is.false
