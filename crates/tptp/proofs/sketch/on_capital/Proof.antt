use Rattle.tptp.proofs.Words.{capital_laws}
use borrow.Author.Rules.{rules}
use Rattle.tptp.proofs.sketch.on_capital.Statement.{statement}
use Rattle.tptp.proofs.sketch.on_capital.Tie as tie

ruleset all = (rules, capital_laws)

add-requires : tie.Need-add-requires
add-requires c κs = search all

same_length : tie.Need-shape_of-marks-then-stage-ge6
same_length c = search all

same-length-2 : tie.Need-shape_of-places-then-stage-ge6
same-length-2 c = search all

returns : tie.Need-returns-then-stage-ge6
returns c = search all

pass-requires : tie.Need-pass-requires
pass-requires c κs = search all

returns-2 : tie.Need-returns
returns-2 c = search all

pub on_capital_spec : {M : Type 1} → statement M
on_capital_spec =
    tie.close (tie.spec add-requires same_length same-length-2 returns pass-requires returns-2)
