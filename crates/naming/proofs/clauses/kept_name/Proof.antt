use borrow.Author.Rules.{rules}
use Rattle.naming.proofs.ClauseNames.{stage_laws}
use Rattle.naming.proofs.clauses.kept_name.Statement.{statement}
use Rattle.naming.proofs.clauses.kept_name.Tie as tie

ruleset all = (rules, stage_laws)

-- src/clauses.rt:29:9
returns : tie.Need-returns-then-stage-eq2
returns c = search all

-- src/clauses.rt:25:1
returns-2 : tie.Need-returns
returns-2 c = search all

pub kept_name_spec : {M : Type 1} → statement M
kept_name_spec = tie.close (tie.spec returns returns-2)
