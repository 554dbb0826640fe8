-- The door says which: refused there, nothing is touched but the work words; else the first of them are lent to the inside.
use borrow.Author.Rules.{rules}
use lib.Seq.{length-take-le}
use mathlib.Core.List.{List}
use mathlib.Core.Path.{refl, sym, ◌∙◌}
use Prim.Native.Nat.{ℕ}
use Rattle.hukolearu.specs.Calls.{SearchAsked, search_with, search_inputs}
use Rattle.hukolearu.specs.Says.{SearchAccepted}
use Rattle.hukolearu.proofs.DoorLaws.{opened, at_question, work_left}
use Rattle.hukolearu.proofs.CallsTold.{all_passed}
use Rattle.smallest.proofs.AtTheDoor.{call_refused, call_inside, tells_refusal, tells_same}
use Rattle.smallest.proofs.smallest.Statement.{statement}
use Rattle.smallest.proofs.smallest.Tie as tie

asked : tie.After-enter → SearchAsked
asked c = let a = c.args in search_with a.file.now a.limit a.budget a.proof.now a.answer.now a.work.now

accepted : (c : tie.In-Ok) → SearchAccepted (asked c.before)
unfolding asked
accepted c = opened _ _ c.enter.ensures c.in-Ok.is

refused-at-door : tie.Need-returns-in-Err
unfolding asked
refused-at-door c =
    let entered = c.before.before.before.before.before.before in
    let door = c in
    let e = call_refused (asked entered) door.enter.ensures door.in-Err.is in
    let t = tells_refusal e _ _ c.refused.ensures in
    (t.bound, (t.numbers, (t.steps, (t.words, c.leave.ensures))))

requires : tie.Need-tried-least-requires
unfolding asked
requires c κs =
    let door = c in
    let question = at_question _ (search_inputs (asked c.before.before.before.before)) door.enter.ensures door.in-Ok.is in
    (all_passed door.args.work.now (accepted c.before.before.before) question refl, (accepted c.before.before.before).enough_proof)

admitted : tie.Need-returns-in-Ok
unfolding asked
admitted c =
    let door = c.before.before.before.before.before.before.before.before.before.before.before.before.before.before in
    let inside = c.tried-least in
    let e = call_inside (asked door.before) (accepted door) in
    let part : List ℕ = inside.new.work in
    let rest = work_left _ part (accepted door).enough_work inside.auto.work in
    let t = tells_same e inside.ensures in
    (t.bound, (t.numbers, (t.steps, (t.words, c.leave-in-Ok.ensures ∙ rest))))

pub smallest_spec : {M : Type 1} → statement M
unfolding asked
smallest_spec =
    tie.close
    (tie.spec
    (λ c κs. search rules)
    (λ c. search rules)
    (λ c κs. search rules)
    (λ c κs. search rules)
    (λ c. search rules)
    (λ c. (accepted c.before.before).enough_work)
    (λ c. sym (length-take-le 16384 c.args.work.now (accepted c.before.before.before).enough_work))
    requires
    (λ c κs. search rules)
    (λ c. search rules)
    refused-at-door
    (λ c. search rules)
    (λ c. search rules)
    (λ c. search rules)
    admitted)
