-- The door says which: refused there, or by the entries, nothing is touched but the work words; else the first of them are lent to the inside.
use borrow.Author.Rules.{rules}
use lib.Seq.{length-take-le}
use mathlib.Core.List.{List}
use mathlib.Core.Bool.{not}
use mathlib.Core.Path.{refl, sym, ap, ◌∙◌}
use Prim.Native.Nat.{ℕ}
use Rattle.hukolearu.proofs.DoorLaws.{work_left}
use Rattle.season.specs.Season.{season_with}
use Rattle.season.proofs.Calls.{let_in, gives_refusal, gives_wrong_entries, entries_right, gives_report}
use Rattle.season.proofs.season.Statement.{statement}
use Rattle.season.proofs.season.Tie as tie

wrong-entries : tie.Need-returns-then-not-entries_fit
wrong-entries c =
    let a = c.args in
    let g = gives_wrong_entries (season_with c.args.table.now c.args.entries.now c.args.list.now c.args.proof.now c.args.answer.now c.args.work.now) c.enter.ensures c.in-Ok.is c.entries_fit.ensures (ap not c.if-not-entries_fit.true) c.refused-then-not-entries_fit.ensures a.proof.now a.answer.now in
    (g.numbers, (g.steps, (g.words, c.leave-then-not-entries_fit.ensures)))

requires : tie.Need-put_all-report-requires
requires c κs =
    let in-it = let_in (season_with c.args.table.now c.args.entries.now c.args.list.now c.args.proof.now c.args.answer.now c.args.work.now) c.enter.ensures c.in-Ok.is in
    (in-it.good_file, record { enough = in-it.enough_proof; room = length-take-le 16384 c.args.work.now in-it.enough_work }, entries_right (season_with c.args.table.now c.args.entries.now c.args.list.now c.args.proof.now c.args.answer.now c.args.work.now) c.enter.ensures c.in-Ok.is c.entries_fit.ensures (ap not c.if-not-entries_fit.false))

refused-at-door : tie.Need-returns-in-Err
refused-at-door c =
    let a = c.args in
    let g = gives_refusal (season_with c.args.table.now c.args.entries.now c.args.list.now c.args.proof.now c.args.answer.now c.args.work.now) c.enter.ensures c.in-Err.is c.refused.ensures a.proof.now a.answer.now in
    (g.numbers, (g.steps, (g.words, c.leave.ensures)))

reported : tie.Need-returns-else-not-entries_fit
reported c =
    let inside = c.put_all-report in
    let in-it = let_in (season_with c.args.table.now c.args.entries.now c.args.list.now c.args.proof.now c.args.answer.now c.args.work.now) c.enter.ensures c.in-Ok.is in
    let g = gives_report (season_with c.args.table.now c.args.entries.now c.args.list.now c.args.proof.now c.args.answer.now c.args.work.now) c.enter.ensures c.in-Ok.is c.entries_fit.ensures (ap not c.if-not-entries_fit.false) refl inside.ensures in
    let part : List ℕ = inside.new.work in
    let rest = work_left _ part in-it.enough_work inside.auto.work in
    (g.numbers, (g.steps, (g.words, c.leave-in-Ok.ensures ∙ rest)))

pub season_spec : {M : Type 1} → statement M
season_spec =
    tie.close
    (tie.spec
    (λ c κs. search rules)
    (λ c. search rules)
    (λ c κs. search rules)
    (λ c κs. search rules)
    (λ c. search rules)
    (λ c κs. search rules)
    (λ c κs. search rules)
    (λ c κs. search rules)
    (λ c. search rules)
    wrong-entries
    (λ c. (let_in (season_with c.args.table.now c.args.entries.now c.args.list.now c.args.proof.now c.args.answer.now c.args.work.now) c.enter.ensures c.in-Ok.is).enough_work)
    (λ c. sym (length-take-le 16384 c.args.work.now (let_in (season_with c.args.table.now c.args.entries.now c.args.list.now c.args.proof.now c.args.answer.now c.args.work.now) c.enter.ensures c.in-Ok.is).enough_work))
    requires
    (λ c κs. search rules)
    (λ c. search rules)
    refused-at-door
    (λ c. search rules)
    (λ c. search rules)
    (λ c. search rules)
    reported)
