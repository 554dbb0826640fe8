use borrow.Author.Rules.{rules}
use mathlib.Core.Path.{sym, ◌∙◌, ap}
use Rattle.rules.specs.Setting.{one_way}
use Rattle.hukolearu.specs.Calls.{Given, inputs_by, search_with, at_front}
use Rattle.table.specs.File.{table_in}
use Rattle.hukolearu.proofs.CallsTold.{refuses}
use Rattle.restart.proofs.Telling.{missing_place, none_missing, missing_fits, search_missing, search_concluded}
use Rattle.restart.proofs.calls.search.Statement.{statement}
use Rattle.restart.proofs.calls.search.Tie as tie

refused-there : tie.Need-returns-in-Some
refused-there c =
    let asks = search_with c.args.file.now c.args.bound c.args.budget c.args.proof.now c.args.answer.now c.args.work.now in
    let e = search_missing table_in asks (missing_place asks.file (inputs_by one_way asks) c.missing.ensures c.in-Some.is) in
    let t = refuses e _ _ c.refused.ensures in
    (t.numbers, (t.steps, (t.words, c.leave.ensures)))

concluded : tie.Need-returns-in-None
concluded c =
    let a = c.args in
    let asks = search_with c.args.file.now c.args.bound c.args.budget c.args.proof.now c.args.answer.now c.args.work.now in
    let e = sym (search_concluded asks (none_missing asks.file (inputs_by one_way asks) c.missing.ensures c.in-None.is)) in
    let x = c.search_by.ensures in
    (x.0 ∙ ap (λ (g : Given). g.outcome) e, (x.1.0 ∙ ap (λ (g : Given). at_front g.proof a.proof.now) e, (x.1.1.0 ∙ ap (λ (g : Given). at_front g.answer a.answer.now) e, x.1.1.1)))

pub search_spec : {M : Type 1} → statement M
search_spec =
    tie.close
    (tie.spec
    (λ c κs. search rules)
    (λ c. search rules)
    (λ c κs. search rules)
    (λ c. let asks = search_with c.args.file.now c.args.bound c.args.budget c.args.proof.now c.args.answer.now c.args.work.now in missing_fits asks.file (inputs_by one_way asks) c.missing.ensures c.in-Some.is)
    (λ c κs. search rules)
    (λ c. search rules)
    (λ c κs. search rules)
    (λ c. search rules)
    refused-there
    (λ c. search rules)
    (λ c. search rules)
    (λ c. search rules)
    concluded)
