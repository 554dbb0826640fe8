use borrow.Author.Rules.{rules}
use Rattle.desk.proofs.values.Statement.{statement}
use Rattle.desk.proofs.values.Tie as tie

pub values_spec : {M : Type 1} → statement M
values_spec =
    tie.close
    (tie.spec
    (λ c. search rules)
    (λ c κs. search rules)
    (λ c. search rules)
    (λ c κs. search rules)
    (λ c. search rules)
    (λ c κs. search rules)
    (λ c. search rules)
    (λ c κs. search rules)
    (λ c. search rules)
    (λ c κs. search rules)
    (λ c. search rules)
    (λ c κs. search rules)
    (λ c. search rules)
    (λ c κs. search rules)
    (λ c. cc)
    (λ c. cc)
    (λ c. cc)
    (λ c. cc)
    (λ c. cc)
    (λ c. cc)
    (λ c. cc))
