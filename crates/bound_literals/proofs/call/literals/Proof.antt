-- The door says which: refused there, nothing is touched but the work words; else the first of them are lent to the inside.
use borrow.Author.Rules.{rules}
use lib.ListN.{length}
use lib.Seq.{length-take-le}
use mathlib.Core.List.{List}
use mathlib.Core.Path.{refl, sym, ◌∙◌}
use Prim.Native.Nat.{ℕ}
use Rattle.hukolearu.proofs.DoorLaws.{opened, at_question, work_left}
use Rattle.hukolearu.proofs.CallsTold.{all_passed}
use Rattle.bound_literals.specs.Bound.{asked}
use Rattle.bound_literals.proofs.Calling.{call_refused, call_admitted}
use Rattle.bound_literals.proofs.call.literals.Statement.{statement}
use Rattle.bound_literals.proofs.call.literals.Tie as tie

ruleset all = (rules, call_refused)

requires : tie.Need-written-n-requires
requires c κs =
    let door = c in
    let a = door.args in
    all_passed a.work.now (opened c.args.file.now (asked c.args.bound (length c.args.work.now)) c.enter.ensures c.in-Ok.is) (at_question a.file.now (asked a.bound (length a.work.now)) door.enter.ensures door.in-Ok.is) refl

admitted : tie.Need-returns-in-Ok
admitted c =
    let door = c in
    let inside = c.written-n in
    let part : List ℕ = inside.new.work in (
      call_admitted c.args.file.now c.args.bound c.args.steps.now (length c.args.work.now) door.enter.ensures door.in-Ok.is inside.ensures,
      c.leave-in-Ok.ensures ∙ work_left c.args.work.now part (opened c.args.file.now (asked c.args.bound (length c.args.work.now)) c.enter.ensures c.in-Ok.is).enough_work inside.auto.work,
    )

pub literals_spec : {M : Type 1} → statement M
literals_spec =
    tie.close
    (tie.spec
    (λ c κs. search rules)
    (λ c. search rules)
    (λ c κs. search rules)
    (λ c. search rules)
    (λ c. (opened c.args.file.now (asked c.args.bound (length c.args.work.now)) c.enter.ensures c.in-Ok.is).enough_work)
    (λ c. sym (length-take-le 16384 c.args.work.now (opened c.args.file.now (asked c.args.bound (length c.args.work.now)) c.enter.ensures c.in-Ok.is).enough_work))
    requires
    (λ c κs. search rules)
    (λ c. search rules)
    (λ c. search all)
    (λ c. search rules)
    (λ c. search rules)
    admitted)
