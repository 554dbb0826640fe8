use Rattle.written_proofs.proofs.Written.{extension_written}
use Rattle.written_proofs.specs.Steps.{names_of}
use Rattle.written_proofs.proofs.write.extension.Goals as goal

pub returns : goal.returns
returns c = extension_written (names_of c.args.text.now c.args.places.now) c.args.number c.args.literal c.bytes-verb.ensures c.reference-named.ensures c.field.ensures
