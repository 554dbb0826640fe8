use native.Mathlib.Omega.{arith}
use Rattle.desk.proofs.Looking.{may_ask}
use Rattle.desk.proofs.Reporting.{any_laws}
use borrow.Author.Rules.{rules}
use Rattle.desk.proofs.any_slot.Statement.{statement}
use Rattle.desk.proofs.any_slot.Tie as tie

ruleset all = (rules, any_laws)

pub any_slot_spec : {M : Type 1} → statement M
any_slot_spec =
    tie.close (tie.spec (λ c κs. let a = c.args in may_ask a.records.now a.day a.house c.requires.0) (λ c. search rules) (λ c. search rules) (λ c. search rules) (λ c. search all) (λ c. search all) (λ c. search all))
