use borrow.Author.Rules.{rules}
use mathlib.Core.List.{[]}
use mathlib.Core.Path.{sym, ◌∙◌, ap}
use Rattle.hukolearu.specs.Calls.{Given, check_inputs, check_with, at_front}
use Rattle.table.specs.File.{table_in}
use Rattle.hukolearu.proofs.CallsTold.{refuses}
use Rattle.restart.proofs.Telling.{missing_place, none_missing, missing_fits, check_missing, check_concluded}
use Rattle.restart.proofs.calls.check_proof.Statement.{statement}
use Rattle.restart.proofs.calls.check_proof.Tie as tie

refused-there : tie.Need-returns-in-Some
refused-there c =
    let asks = check_with c.args.file.now c.args.bound c.args.offered.now c.args.answer.now c.args.work.now in
    let e = check_missing table_in asks (missing_place asks.file (check_inputs asks) c.missing.ensures c.in-Some.is) in
    let t = refuses e [] _ c.refused.ensures in
    (t.numbers, (t.words, c.leave.ensures))

concluded : tie.Need-returns-in-None
concluded c =
    let a = c.args in
    let asks = check_with c.args.file.now c.args.bound c.args.offered.now c.args.answer.now c.args.work.now in
    let e = sym (check_concluded asks (none_missing asks.file (check_inputs asks) c.missing.ensures c.in-None.is)) in
    let x = c.check_by.ensures in
    (x.0 ∙ ap (λ (g : Given). g.outcome) e, (x.1.0 ∙ ap (λ (g : Given). at_front g.answer a.answer.now) e, x.1.1))

pub check_proof_spec : {M : Type 1} → statement M
check_proof_spec =
    tie.close
    (tie.spec
    (λ c κs. search rules)
    (λ c. search rules)
    (λ c κs. search rules)
    (λ c. let asks = check_with c.args.file.now c.args.bound c.args.offered.now c.args.answer.now c.args.work.now in missing_fits asks.file (check_inputs asks) c.missing.ensures c.in-Some.is)
    (λ c κs. search rules)
    (λ c. search rules)
    (λ c κs. search rules)
    (λ c. search rules)
    refused-there
    (λ c. search rules)
    (λ c. search rules)
    concluded)
