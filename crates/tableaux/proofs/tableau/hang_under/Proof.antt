use Rattle.tableaux.proofs.Opening.{place_is, work_is}
use borrow.Author.Rules.{rules}
use Rattle.tableaux.proofs.tableau.hang_under.Statement.{statement}
use Rattle.tableaux.proofs.tableau.hang_under.Tie as tie

pub hang_under_spec : {M : Type 1} → statement M
hang_under_spec =
    tie.close
    (tie.spec
    (λ c κs. search rules)
    (λ c κs. search rules)
    (λ c κs. search rules)
    (λ c. search rules)
    (λ c. search rules)
    (λ c. search rules)
    (λ c. let args = c.args in let counted = c.requires.1 in (place_is args.file.now args.work.now args.place args.start args.copy args.offset counted c.right_of-rest.ensures c.next_of.ensures, work_is args.file.now args.work.now args.place args.start args.copy args.offset counted c.right_of-rest.ensures c.hang.ensures)))
