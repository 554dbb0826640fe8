use Rattle.std.proofs.Common.{rules}
use Rattle.requests.proofs.Numbers.{end_fits}
use Rattle.requests.proofs.piece.end_of.Goals as goal

pub overflow_add-result : goal.overflow_add-result
overflow_add-result c = end_fits c.args.mark c.args.line.now c.args.from c.up_to.ensures c.ranges.from (search rules)
