use Rattle.std.proofs.Common.{rules}
use Rattle.tptp.proofs.Parts.{part_laws}
use Rattle.tptp.proofs.sketch.add_part.Goals as goal

ruleset all = (rules, part_laws)

pub returns-then-depth-eq0 : goal.returns-then-depth-eq0
returns-then-depth-eq0 c = search all

pub returns-then-top-count : goal.returns-then-top-count
returns-then-top-count c = search all

pub returns-else-top-count : goal.returns-else-top-count
returns-else-top-count c = search all
