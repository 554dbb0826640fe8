use borrow.Author.Rules.{rules}
use mathlib.Core.Path.{◌∙◌}
use Rattle.hukolearu.proofs.DoorLaws.{opened, at_question}
use Rattle.restart.proofs.Telling.{shut_none, open_judged}
use Rattle.restart.proofs.calls.missing.Statement.{statement}
use Rattle.restart.proofs.calls.missing.Tie as tie

judge-requires : tie.Need-judge-requires
judge-requires c κs =
    let door = c.enter.ensures in
    let entry = c.in-Ok.is in
    let a = c.args in
    ((opened a.file.now a.inputs door entry).good_file, c.wide.ensures ∙ at_question a.file.now a.inputs door entry)

pub missing_spec : {M : Type 1} → statement M
missing_spec =
    tie.close
    (tie.spec
    (λ c κs. search rules)
    (λ c. search rules)
    (λ c. search rules)
    (λ c κs. search rules)
    judge-requires
    (λ c. shut_none c.args.file.now c.args.inputs c.enter.ensures c.in-Err.is)
    (λ c. open_judged c.args.file.now c.args.inputs c.enter.ensures c.in-Ok.is c.judge.ensures))
