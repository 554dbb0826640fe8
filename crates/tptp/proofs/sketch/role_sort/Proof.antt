use Rattle.tptp.proofs.Signs.{role_laws}
use borrow.Author.Rules.{rules}
use Rattle.tptp.proofs.sketch.role_sort.Statement.{statement}
use Rattle.tptp.proofs.sketch.role_sort.Tie as tie

ruleset all = (rules, role_laws)

returns : tie.Need-returns-then-text-start
returns c = search all

shared-slice-read-if2 : tie.Need-bounds-text-start
shared-slice-read-if2 c = search all

returns-2 : tie.Need-returns-then-text-start-eq110
returns-2 c = search all

returns-3 : tie.Need-returns
returns-3 c = search all

pub role_sort_spec : {M : Type 1} → statement M
role_sort_spec = tie.close (tie.spec returns shared-slice-read-if2 returns-2 returns-3)
