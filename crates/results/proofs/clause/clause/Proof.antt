use borrow.Author.Rules.{rules}
use Rattle.results.proofs.Lines.{line_laws}
use Rattle.results.proofs.clause.clause.Statement.{statement}
use Rattle.results.proofs.clause.clause.Tie as tie

ruleset all = (rules, line_laws)

pub clause_spec : {M : Type 1} → statement M
clause_spec =
    tie.close
    (tie.spec
    (λ c κs. search all)
    (λ c. search all)
    (λ c. search all)
    (λ c κs. search all)
    (λ c. search all)
    (λ c. search all))
