use borrow.Author.Rules.{rules}
use Rattle.tptp.proofs.Signs.{sort_laws}
use Rattle.tptp.proofs.sketch.name_sort.Statement.{statement}
use Rattle.tptp.proofs.sketch.name_sort.Tie as tie

ruleset all = (rules, sort_laws)

returns : tie.Need-returns-then-depth-gt1
returns c = search all

returns-2 : tie.Need-returns-then-negative
returns-2 c = search all

returns-3 : tie.Need-returns
returns-3 c = search all

pub name_sort_spec : {M : Type 1} → statement M
name_sort_spec = tie.close (tie.spec returns returns-2 returns-3)
