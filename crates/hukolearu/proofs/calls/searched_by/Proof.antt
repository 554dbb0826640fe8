use borrow.Author.Rules.{rules}
use Rattle.hukolearu.proofs.CallsTold.{search_laws}
use Rattle.hukolearu.proofs.calls.searched_by.Statement.{statement}
use Rattle.hukolearu.proofs.calls.searched_by.Tie as tie

ruleset all = (rules, search_laws)

pub searched_by_spec : {M : Type 1} → statement M
searched_by_spec =
    tie.close
    (tie.spec
    (λ c κs. search all)
    (λ c. search all)
    (λ c. search all)
    (λ c κs. search all)
    (λ c. search all)
    (λ c κs. search all)
    (λ c. search all)
    (λ c. search all)
    (λ c κs. (search all, search all, search all))
    (λ c. search all)
    (λ c. search all)
    (λ c. search all)
    (λ c. search all)
    (λ c. search all)
    (λ c. search all)
    (λ c. search all)
    (λ c. search all))
