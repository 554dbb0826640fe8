use Rattle.std.proofs.Common.{◌≡◌, ◌+◌, ◌-◌, arith}
use Rattle.table.proofs.Bodies.{seek_next}
use Rattle.engine.proofs.walk.start_of.Goals as goal

pub loop-preserved : goal.loop-preserved
loop-preserved c =
    let one : c.args.number - (c.loop.counter + 1) ≡ c.args.number - c.loop.counter - 1 = omega arith in
    rw one (seek_next c.loop.invariant (omega arith) c.following.ensures c.wide.ensures)
