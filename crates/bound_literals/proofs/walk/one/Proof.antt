use borrow.Author.Rules.{rules}
use Rattle.bound_literals.proofs.Filling.{fill_one, fill_full}
use Rattle.bound_literals.proofs.walk.one.Statement.{statement}
use Rattle.bound_literals.proofs.walk.one.Tie as tie

ruleset all = (rules, fill_one, fill_full)

pub one_spec : {M : Type 1} → statement M
one_spec =
    tie.close
    (tie.spec
    (λ c. search all)
    (λ c. search all)
    (λ c. search all)
    (λ c. search all)
    (λ c. search all)
    (λ c. search all))
