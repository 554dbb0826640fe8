use borrow.Author.Rules.{rules}
use Rattle.asking.proofs.Lines.{answer_laws}
use Rattle.asking.proofs.report.answer.Statement.{statement}
use Rattle.asking.proofs.report.answer.Tie as tie

ruleset all = (rules, answer_laws)

pub answer_spec : {M : Type 1} → statement M
answer_spec =
    tie.close
    (tie.spec
    (λ c κs. search all)
    (λ c. search all)
    (λ c. search all)
    (λ c κs. search all)
    (λ c κs. search all)
    (λ c. search all)
    (λ c κs. search all)
    (λ c. search all)
    (λ c. search all))
