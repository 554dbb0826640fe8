use Rattle.std.proofs.Common.{rules}
use Rattle.tptp.proofs.Signs.{enter_laws}
use Rattle.tptp.proofs.sketch.enter.Goals as goal

ruleset all = (rules, enter_laws)

pub returns-then-p-eq6 : goal.returns-then-p-eq6
returns-then-p-eq6 c = search all

pub returns : goal.returns
returns c = search all
