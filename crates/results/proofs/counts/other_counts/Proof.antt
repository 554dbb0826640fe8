use borrow.Author.Rules.{rules}
use Rattle.results.proofs.Lines.{line_laws}
use Rattle.results.proofs.counts.other_counts.Statement.{statement}
use Rattle.results.proofs.counts.other_counts.Tie as tie

ruleset all = (rules, line_laws)

pub other_counts_spec : {M : Type 1} → statement M
other_counts_spec =
    tie.close
    (tie.spec
    (λ c κs. search all)
    (λ c κs. search all)
    (λ c κs. search all)
    (λ c. search all)
    (λ c. search all))
