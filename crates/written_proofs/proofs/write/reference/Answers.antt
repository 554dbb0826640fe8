use Rattle.written_proofs.proofs.Written.{by_name, by_number}
use Rattle.written_proofs.specs.Steps.{names_of}
use Rattle.written_proofs.proofs.write.reference.Goals as goal

pub returns-then-tells : goal.returns-then-tells
returns-then-tells c = by_name (names_of c.args.text.now c.args.places.now) c.args.number c.wide.ensures c.name-name.ensures c.tells.ensures c.if-tells.true c.bytes.ensures

pub returns : goal.returns
returns c = by_number (names_of c.args.text.now c.args.places.now) c.args.number c.wide.ensures c.name-name.ensures c.tells.ensures c.if-tells.false c.decimal.ensures
