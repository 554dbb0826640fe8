use Rattle.std.proofs.Common.{◌≡◌, ◌+◌, ◌-◌, ◌<◌, arith}
use Rattle.text.proofs.Written.{power_some, power_next, digit_more}
use Rattle.text.proofs.put.digits.Goals as goal

pub loop-preserved : goal.loop-preserved
loop-preserved c =
    let one : c.args.count - (c.loop.counter + 1) ≡ c.args.count - c.loop.counter - 1 = omega arith in
    rw one (power_next (omega arith) c.loop.invariant.0, digit_more _ _ c.args.n (omega arith) c.loop.invariant.1 c.loop.invariant.0 c.glyph.ensures c.byte-at.ensures)

pub nonzero_div-n : goal.nonzero_div-n
nonzero_div-n c = let some : 0 < c.loop.power = power_some (omega arith) c.loop.invariant.0 (omega arith) in omega arith
