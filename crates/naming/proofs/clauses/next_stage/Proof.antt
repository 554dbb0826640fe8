use borrow.Author.Rules.{rules}
use Rattle.naming.proofs.ClauseNames.{stage_laws}
use Rattle.naming.proofs.clauses.next_stage.Statement.{statement}
use Rattle.naming.proofs.clauses.next_stage.Tie as tie

ruleset all = (rules, stage_laws)

-- src/clauses.rt:19:16
add-result : tie.Need-overflow_add-result
add-result c = search rules

-- src/clauses.rt:19:9
returns : tie.Need-returns-then-stage-lt5
returns c = search all

-- src/clauses.rt:15:1
returns-2 : tie.Need-returns
returns-2 c = search all

pub next_stage_spec : {M : Type 1} → statement M
next_stage_spec = tie.close (tie.spec add-result returns returns-2)
