use Rattle.std.proofs.Common.{rules}
use Rattle.table.proofs.Bodies.{body_laws}
use Rattle.table.proofs.file.read_body.Goals as goal

pub returns-in_default-clause-judged_value : goal.returns-in_default-clause-judged_value
returns-in_default-clause-judged_value c = search (rules, body_laws)

pub loop-at-preserved : goal.loop-at-preserved
loop-at-preserved c = search (rules, body_laws)

pub returns-clause-judged_value : goal.returns-clause-judged_value
returns-clause-judged_value c = search (rules, body_laws)

pub returns-clause-fingerprint_value : goal.returns-clause-fingerprint_value
returns-clause-fingerprint_value c = search (rules, body_laws)
