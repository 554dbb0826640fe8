-- The door says which: refused there, nothing is touched but the work words; else the first of them are lent to the inside.
use borrow.Author.Rules.{rules}
use lib.Seq.{length-take-le}
use mathlib.Core.List.{List, []}
use mathlib.Core.Path.{refl, sym, ◌∙◌}
use Prim.Native.Nat.{ℕ}
use Rattle.rules.specs.Setting.{Profile, profile_of}
use Rattle.unification.specs.Places.{work_words}
use Rattle.hukolearu.specs.Calls.{CheckAsked, check_with, check_inputs}
use Rattle.hukolearu.specs.Says.{CheckAccepted}
use Rattle.hukolearu.proofs.DoorLaws.{opened, at_question, work_left}
use Rattle.hukolearu.proofs.CallsTold.{refuses, tells, all_passed, check_refused, check_admitted}
use Rattle.hukolearu.proofs.calls.check_by.Statement.{statement}
use Rattle.hukolearu.proofs.calls.check_by.Tie as tie

asked : tie.After-enter → CheckAsked
asked c = let a = c.args in check_with a.file.now a.conditions.bound a.offered.now a.answer.now a.work.now

profile : tie.After-enter → Profile
profile c = profile_of c.args.conditions.restarts

accepted : (c : tie.In-Ok) → CheckAccepted (asked c.before)
unfolding asked
accepted c = opened _ _ c.enter.ensures c.in-Ok.is

refused-at-door : tie.Need-returns-in-Err
unfolding asked profile
refused-at-door c =
    let entered = c.before.before.before.before.before.before in
    let e = check_refused (profile entered) (asked entered) c.enter.ensures c.in-Err.is in
    let t = refuses e [] _ c.refused.ensures in
    (t.numbers, (t.words, c.leave.ensures))

requires : tie.Need-checked-outcome-requires
unfolding asked profile
requires c κs =
    let entered = c.before.before.before in
    let question = at_question _ (check_inputs (asked entered)) c.enter.ensures c.in-Ok.is in
    all_passed c.args.work.now (accepted c.before.before) question refl

admitted : tie.Need-returns-in-Ok
unfolding asked profile
admitted c =
    let entered = c.before.before.before.before.before.before.before.before.before.before.before.before in
    let inside = c.checked-outcome in
    let e = check_admitted (profile entered) (asked entered) c.enter.ensures c.in-Ok.is in
    let t = tells e inside.ensures in
    let part : List ℕ = inside.new.work in
    let rest = work_left _ part (accepted c.before.before.before.before.before.before.before.before.before.before.before).enough_work inside.auto.work in
    (t.numbers, (t.words, c.leave-in-Ok.ensures ∙ rest))

pub check_by_spec : {M : Type 1} → statement M
unfolding asked profile
check_by_spec =
    tie.close
    (tie.spec
    (λ c κs. search rules)
    (λ c. search rules)
    (λ c κs. search rules)
    (λ c κs. search rules)
    (λ c. search rules)
    (λ c. (accepted c.before).enough_work)
    (λ c. sym (length-take-le work_words c.args.work.now (accepted c.before.before).enough_work))
    requires
    (λ c κs. search rules)
    (λ c. search rules)
    refused-at-door
    (λ c. search rules)
    (λ c. search rules)
    admitted)
