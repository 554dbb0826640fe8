use Rattle.requests.proofs.Pairs.{no_high, no_low, pair_said}
use Rattle.requests.proofs.bytes.pair.Goals as goal

pub returns-in_err-high : goal.returns-in_err-high
returns-in_err-high c = rw c.from_residual.ensures (no_high c.args.a c.args.b c.in_err-high.ensures)

pub returns-in_err-low : goal.returns-in_err-low
returns-in_err-low c = rw c.from_residual-in_err-low.ensures (no_low c.args.a c.args.b c.in_ok-high.ensures c.in_err-low.ensures)

pub returns : goal.returns
returns c = pair_said c.args.a c.args.b c.in_ok-high.ensures c.in_ok-low.ensures
