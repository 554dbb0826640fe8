use borrow.Author.Rules.{rules}
use Rattle.results.proofs.Lines.{line_laws}
use Rattle.results.proofs.slimmed.slimmed.Statement.{statement}
use Rattle.results.proofs.slimmed.slimmed.Tie as tie

ruleset all = (rules, line_laws)

pub slimmed_spec : {M : Type 1} → statement M
slimmed_spec =
    tie.close
    (tie.spec
    (λ c κs. search all)
    (λ c κs. search all)
    (λ c κs. search all)
    (λ c κs. search all)
    (λ c κs. search all)
    (λ c κs. search all)
    (λ c κs. search all)
    (λ c κs. search all)
    (λ c κs. search all)
    (λ c κs. search all)
    (λ c. search all)
    (λ c. search all))
