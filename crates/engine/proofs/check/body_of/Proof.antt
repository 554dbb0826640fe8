use native.Mathlib.Omega.{arith}
use borrow.Author.Rules.{rules}
use Rattle.table.proofs.Accepted.{accepted}
use Rattle.engine.proofs.check.body_of.Statement.{statement}
use Rattle.engine.proofs.check.body_of.Tie as tie

pub body_of_spec : {M : Type 1} → statement M
body_of_spec =
    tie.close
    (tie.spec
    (λ c. omega (arith, (accepted _ c.requires).least))
    (λ c. omega (arith, (accepted _ c.requires).most))
    (λ c. search rules))
