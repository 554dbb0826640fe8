use Rattle.written_proofs.proofs.Names.{begins_byte, begins_not}
use Rattle.written_proofs.proofs.clause.begins.Goals as goal

pub returns-then-name-gt0 : goal.returns-then-name-gt0
returns-then-name-gt0 c = begins_byte c.args.name.now c.if-name-gt0.true

pub returns-else-name-gt0 : goal.returns-else-name-gt0
returns-else-name-gt0 c = begins_not c.args.name.now c.if-name-gt0.false
