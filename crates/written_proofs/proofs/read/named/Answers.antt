use Rattle.written_proofs.proofs.Pieces.{a_named, not_named, none_named}
use Rattle.written_proofs.proofs.read.named.Goals as goal

pub returns-in-Some : goal.returns-in-Some
returns-in-Some c = a_named c.in-Some.is c.if-clause-lt512.true

pub returns-in_default : goal.returns-in_default
returns-in_default c = not_named c.in-Some.is c.if-clause-lt512.false

pub returns-in_default-2 : goal.returns-in_default-2
returns-in_default-2 c = none_named c.in_default.is
