use Rattle.std.proofs.Common.{rules}
use Rattle.names.proofs.Stems.{onward_known, onward_added}
use Rattle.names.proofs.tree.onward.Goals as goal

pub returns-in-Some : goal.returns-in-Some
returns-in-Some c = onward_known (search rules) (search rules) c.small.ensures c.in-Some.ensures.found (search rules)

pub returns : goal.returns
returns c = onward_added c.requires.0 (search rules) c.small.ensures c.in_default.ensures.found (search rules) (search rules)
