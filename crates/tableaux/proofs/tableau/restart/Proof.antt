use Rattle.tableaux.proofs.Restarting.{restart_under, restarted_as}
use borrow.Author.Rules.{rules}
use Rattle.tableaux.proofs.tableau.restart.Statement.{statement}
use Rattle.tableaux.proofs.tableau.restart.Tie as tie

pub restart_spec : {M : Type 1} → statement M
restart_spec =
    tie.close
    (tie.spec
    (λ c κs. search rules)
    (λ c κs. search rules)
    (λ c κs. let entry = c in restart_under entry.requires entry.args.step c.open_copy-copy.ensures c.literals_at-count.ensures)
    (λ c. search rules)
    (λ c. let entry = c in restarted_as entry.requires entry.args.step c.open_copy-copy.ensures c.hang_under.ensures))
