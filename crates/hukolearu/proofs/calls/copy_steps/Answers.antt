use Rattle.std.proofs.Common.{arith}
use Rattle.hukolearu.proofs.Steps.{copied_none, copied_more, copied_all}
use Rattle.hukolearu.proofs.calls.copy_steps.Goals as goal

pub loop-i-init : goal.loop-i-init
loop-i-init c = copied_none c.args.work.now c.args.proof.now

pub loop-i-preserved : goal.loop-i-preserved
loop-i-preserved c = copied_more c.args.work.now c.args.proof.now c.args.count c.loop-i.i c.requires.0 c.requires.1 c.requires.2 c.loop-i.invariant (omega arith)

pub returns : goal.returns
returns c = copied_all c.args.work.now c.args.proof.now c.args.count c.loop-i.i c.requires.0 c.requires.1 c.requires.2 c.loop-i.invariant (omega arith) (omega arith)
