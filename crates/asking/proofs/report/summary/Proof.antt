use borrow.Author.Rules.{rules}
use Rattle.asking.proofs.Lines.{line_laws}
use Rattle.asking.proofs.report.summary.Statement.{statement}
use Rattle.asking.proofs.report.summary.Tie as tie

ruleset all = (rules, line_laws)

pub summary_spec : {M : Type 1} → statement M
summary_spec =
    tie.close
    (tie.spec
    (λ c κs. search all)
    (λ c κs. search all)
    (λ c κs. search all)
    (λ c κs. search all)
    (λ c. search all)
    (λ c. search all))
