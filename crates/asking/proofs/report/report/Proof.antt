use borrow.Author.Rules.{rules}
use Rattle.asking.proofs.Lines.{report_laws}
use Rattle.asking.proofs.report.report.Statement.{statement}
use Rattle.asking.proofs.report.report.Tie as tie

ruleset all = (rules, report_laws)

pub report_spec : {M : Type 1} → statement M
report_spec =
    tie.close
    (tie.spec
    (λ c κs. search all)
    (λ c κs. search all)
    (λ c. search all)
    (λ c. search all)
    (λ c. search all)
    (λ c. search all))
