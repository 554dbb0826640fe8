use Rattle.written_proofs.proofs.Written.{step_reduction, step_extension, step_word}
use Rattle.written_proofs.specs.Steps.{names_of}
use Rattle.written_proofs.proofs.write.step.Goals as goal

pub returns-in-Reduction : goal.returns-in-Reduction
returns-in-Reduction c = step_reduction (names_of c.args.text.now c.args.places.now) c.args.w c.decode.ensures c.in-Reduction.is c.field.ensures

pub returns-in-Extension : goal.returns-in-Extension
returns-in-Extension c = step_extension (names_of c.args.text.now c.args.places.now) c.args.w c.decode.ensures c.in-Extension.is c.extension.ensures

pub returns-in-Restart : goal.returns-in-Restart
returns-in-Restart c = step_word (names_of c.args.text.now c.args.places.now) c.args.w c.decode.ensures c.in-Restart.is c.hex.ensures
