use borrow.Author.Rules.{rules}
use Rattle.asking.proofs.Lines.{line_laws}
use Rattle.asking.proofs.report.line.Statement.{statement}
use Rattle.asking.proofs.report.line.Tie as tie

ruleset all = (rules, line_laws)

pub line_spec : {M : Type 1} → statement M
line_spec =
    tie.close
    (tie.spec
    (λ c κs. search all)
    (λ c κs. search all)
    (λ c κs. search all)
    (λ c. search all)
    (λ c. search all))
