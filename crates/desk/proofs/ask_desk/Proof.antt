use mathlib.Core.Bool.{not}
use mathlib.Core.Path.{ap}
use native.Mathlib.Omega.{arith}
use Rattle.desk.proofs.Looking.{may_ask}
use Rattle.desk.proofs.Reporting.{taken_in, no_matinee_recorded, desk_laws}
use borrow.Author.Rules.{rules}
use Rattle.desk.proofs.ask_desk.Statement.{statement}
use Rattle.desk.proofs.ask_desk.Tie as tie

ruleset all = (rules, desk_laws)

pub ask_desk_spec : {M : Type 1} → statement M
ask_desk_spec =
    tie.close
    (tie.spec
    (λ c κs. search rules)
    (λ c. search all)
    (λ c κs. let a = c.args in may_ask a.records.now a.day a.house (taken_in a.records.now a.day a.house a.first a.second a.third c.acceptable.ensures (ap not c.if-not-acceptable.false)))
    (λ c. search rules)
    (λ c. search rules)
    (λ c κs. search all)
    (λ c. search rules)
    (λ c κs. let a = c.args in (search all, no_matinee_recorded a.records.now a.day a.house a.first a.second a.third c.acceptable.ensures (ap not c.if-not-acceptable.false) c.ask.ensures c.in-NoneFound.is))
    (λ c. search all)
    (λ c. search all)
    (λ c. search all))
