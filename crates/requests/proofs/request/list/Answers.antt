use Rattle.std.proofs.Common.{◌∙◌, rules}
use Rattle.requests.proofs.Rows.{mark_fits, list_none, list_some}
use Rattle.requests.proofs.request.list.Goals as goal

pub overflow_add-result : goal.overflow_add-result
overflow_add-result c = mark_fits c.args.line.now c.args.at _ c.is.ensures c.if-is.true (search rules)

pub returns-then-is : goal.returns-then-is
returns-then-is c = list_none c.args.room c.args.line.now c.args.at c.args.run c.is.ensures c.if-is.true

pub returns : goal.returns
returns c = c.counted.ensures ∙ list_some c.args.room c.args.line.now c.args.at c.args.run c.is.ensures c.if-is.false
