use Rattle.std.proofs.Common.{rules}
use Rattle.tptp.proofs.Signs.{leave_laws}
use Rattle.tptp.proofs.sketch.leave.Goals as goal

ruleset all = (rules, leave_laws)

pub returns-then-p-le1 : goal.returns-then-p-le1
returns-then-p-le1 c = search all

pub returns : goal.returns
returns c = search all
