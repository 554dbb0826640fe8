use Rattle.written_proofs.proofs.Written.{tells_not, tells_only}
use Rattle.written_proofs.specs.Steps.{names_of}
use Rattle.std.proofs.Common.{◌∙◌}
use Rattle.written_proofs.proofs.clause.tells.Goals as goal

pub returns-then-begins : goal.returns-then-begins
returns-then-begins c = c.eq.ensures ∙ tells_only (names_of c.args.text.now c.args.places.now) c.args.own.now c.args.number c.begins.ensures c.if-begins.true c.only.ensures

pub returns-else-begins : goal.returns-else-begins
returns-else-begins c = c.if-begins.false ∙ tells_not (names_of c.args.text.now c.args.places.now) c.args.own.now c.args.number c.begins.ensures c.if-begins.false
