use mathlib.Core.Path.{◌∙◌, ap}
use borrow.Author.Rules.{rules}
use Rattle.desk.specs.Desk.{values_of}
use Rattle.desk.specs.declared.Report.{Report}
use Rattle.exported.proofs.hukolearu_ask_desk.Statement.{statement}
use Rattle.exported.proofs.hukolearu_ask_desk.Tie as tie

pub hukolearu_ask_desk_spec : {M : Type 1} → statement M
hukolearu_ask_desk_spec =
    tie.close (tie.spec (λ c κs. search rules) (λ c κs. search rules) (λ c. c.values.ensures ∙ ap (λ (r : Report). values_of r) c.ask_desk.ensures))
