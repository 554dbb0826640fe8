use borrow.Author.Rules.{rules}
use Rattle.results.proofs.Lines.{line_laws}
use Rattle.results.proofs.outcome.last_numbers.Statement.{statement}
use Rattle.results.proofs.outcome.last_numbers.Tie as tie

ruleset all = (rules, line_laws)

pub last_numbers_spec : {M : Type 1} → statement M
last_numbers_spec =
    tie.close
    (tie.spec
    (λ c κs. search all)
    (λ c κs. search all)
    (λ c κs. search all)
    (λ c. search all)
    (λ c. search all))
