use Rattle.std.proofs.Common.{rules}
use Rattle.tptp.specs.Memory.{inner_of}
use Rattle.tptp.specs.Sketch.{on_mark}
use Rattle.tptp.proofs.Signs.{sign_laws}
use Rattle.tptp.proofs.sketch.on_mark.Goals as goal

ruleset all = (rules, sign_laws)

pub returns-then-p-lt6 : goal.returns-then-p-lt6
returns-then-p-lt6 c = search all

pub returns-in-Comma : goal.returns-in-Comma
unfolding inner_of on_mark
returns-in-Comma c = search all

pub returns-in-Tilde : goal.returns-in-Tilde
returns-in-Tilde c = search all

pub returns-in-Dot : goal.returns-in-Dot
returns-in-Dot c = search all
