use borrow.Author.Rules.{rules}
use Rattle.results.proofs.Lines.{line_laws}
use Rattle.results.proofs.least.least.Statement.{statement}
use Rattle.results.proofs.least.least.Tie as tie

ruleset all = (rules, line_laws)

pub least_spec : {M : Type 1} → statement M
least_spec =
    tie.close
    (tie.spec
    (λ c κs. search all)
    (λ c κs. search all)
    (λ c κs. search all)
    (λ c. search all)
    (λ c. search all))
