use native.Mathlib.Omega.{arith}
use Rattle.desk.proofs.Looking.{may_ask}
use Rattle.desk.proofs.Reporting.{evening_laws}
use borrow.Author.Rules.{rules}
use Rattle.desk.proofs.beside_matinee.Statement.{statement}
use Rattle.desk.proofs.beside_matinee.Tie as tie

ruleset all = (rules, evening_laws)

pub beside_matinee_spec : {M : Type 1} → statement M
beside_matinee_spec =
    tie.close (tie.spec (λ c κs. let a = c.args in may_ask a.records.now a.day a.house c.requires) (λ c. search rules) (λ c. search rules) (λ c. search rules) (λ c. search all) (λ c. search all) (λ c. search all))
