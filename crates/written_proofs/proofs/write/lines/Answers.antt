use Rattle.written_proofs.proofs.Written.{steps_more, steps_last}
use Rattle.written_proofs.specs.Steps.{names_of}
use Rattle.written_proofs.proofs.write.lines.Goals as goal

pub loop-w-preserved : goal.loop-w-preserved
loop-w-preserved c = steps_more (names_of c.args.text.now c.args.places.now) c.args.steps.now c.loop-w.invariant c.loop-w-test.true c.step-written.ensures c.byte-at.ensures

pub returns : goal.returns
returns c = steps_last (names_of c.args.text.now c.args.places.now) c.args.steps.now c.loop-w.invariant c.loop-w-test.false
