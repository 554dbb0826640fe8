-- The door says which: refused there, nothing is touched but the work words; else the first of them are lent to the inside.
use borrow.Author.Rules.{rules}
use lib.Seq.{length-take-le}
use mathlib.Core.List.{List}
use mathlib.Core.Path.{◌≡◌, refl, sym, ◌∙◌, ap}
use Prim.Native.Nat.{ℕ}
use Rattle.rules.specs.Setting.{Profile, profile_of}
use Rattle.unification.specs.Places.{work_words}
use Rattle.hukolearu.specs.Calls.{SearchAsked, search_with, inputs_by}
use Rattle.hukolearu.specs.Door.{Admitted, entry_of}
use Rattle.hukolearu.proofs.DoorLaws.{opened, at_question, work_left}
use Rattle.hukolearu.proofs.CallsTold.{refuses, tells, all_passed, search_refused, search_admitted}
use Rattle.hukolearu.proofs.calls.search_by.Statement.{statement}
use Rattle.hukolearu.proofs.calls.search_by.Tie as tie

abbrev asked : tie.After-enter → SearchAsked
asked c = let a = c.args in search_with a.file.now a.conditions.bound a.budget a.proof.now a.answer.now a.work.now

abbrev profile : tie.After-enter → Profile
profile c = profile_of c.args.conditions.restarts

says : (c : tie.After-enter) → c.enter.result ≡ entry_of (asked c).file (inputs_by (profile c) (asked c))
says c =
    c.enter.ensures
    ∙ ap (λ (least : ℕ). entry_of (asked c).file (record { bound = (asked c).bound; work = (asked c).work_room; proof = (asked c).proof_room; least = least }))
    c.longest_proof-least.ensures

accepted : (c : tie.In-Ok) → Admitted (asked c.before).file (inputs_by (profile c.before) (asked c.before))
accepted c = opened _ _ (says c.before) c.in-Ok.is

refused-at-door : tie.Need-returns-in-Err
refused-at-door c =
    let entered = c.before.before.before.before.before.before in
    let e = search_refused (profile entered) (asked entered) (says entered) c.in-Err.is in
    let t = refuses e _ _ c.refused.ensures in
    (t.numbers, (t.steps, (t.words, c.leave.ensures)))

requires : tie.Need-searched_by-outcome-requires
requires c κs =
    let entered = c.before.before.before.before in
    let question = at_question _ (inputs_by (profile entered) (asked entered)) (says entered) c.in-Ok.is in
    (all_passed c.args.work.now (accepted c.before.before.before) question refl, (accepted c.before.before.before).enough_proof)

admitted : tie.Need-returns-in-Ok
admitted c =
    let entered = c.before.before.before.before.before.before.before.before.before.before.before.before.before.before.before in
    let inside = c.searched_by-outcome in
    let e = search_admitted (profile entered) (asked entered) (says entered) c.in-Ok.is in
    let t = tells e inside.ensures in
    let part : List ℕ = inside.new.work in
    let rest = work_left _ part (accepted c.before.before.before.before.before.before.before.before.before.before.before.before.before.before).enough_work inside.auto.work in
    (t.numbers, (t.steps, (t.words, c.leave-in-Ok.ensures ∙ rest)))

pub search_by_spec : {M : Type 1} → statement M
search_by_spec =
    tie.close
    (tie.spec
    (λ c κs. search rules)
    (λ c κs. search rules)
    (λ c. search rules)
    (λ c κs. search rules)
    (λ c κs. search rules)
    (λ c. search rules)
    (λ c. (accepted c.before.before).enough_work)
    (λ c. sym (length-take-le work_words c.args.work.now (accepted c.before.before.before).enough_work))
    requires
    (λ c κs. search rules)
    (λ c. search rules)
    refused-at-door
    (λ c. search rules)
    (λ c. search rules)
    (λ c. search rules)
    admitted)
