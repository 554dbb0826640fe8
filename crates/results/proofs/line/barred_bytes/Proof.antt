use borrow.Author.Rules.{rules}
use Rattle.results.proofs.Lines.{line_laws}
use Rattle.results.proofs.line.barred_bytes.Statement.{statement}
use Rattle.results.proofs.line.barred_bytes.Tie as tie

ruleset all = (rules, line_laws)

pub barred_bytes_spec : {M : Type 1} → statement M
barred_bytes_spec =
    tie.close
    (tie.spec
    (λ c κs. search all)
    (λ c κs. search all)
    (λ c. search all)
    (λ c. search all))
