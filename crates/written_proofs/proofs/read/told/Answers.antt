use Rattle.written_proofs.proofs.Pieces.{told_name, told_number}
use Rattle.written_proofs.specs.Steps.{names_of}
use Rattle.written_proofs.proofs.read.told.Goals as goal

pub returns-then-begins : goal.returns-then-begins
returns-then-begins c = told_name (names_of c.args.text.now c.args.places.now) c.args.own.now c.begins.ensures c.if-begins.true c.only.ensures

pub returns : goal.returns
returns c = told_number (names_of c.args.text.now c.args.places.now) c.args.own.now c.begins.ensures c.if-begins.false c.number.ensures
