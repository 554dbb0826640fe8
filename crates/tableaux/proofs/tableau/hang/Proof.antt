use borrow.Author.Rules.{rules}
use borrow.Author.Tests.{not-true, not-false}
use Prim.Native.Nat.{◌-◌}
use Rattle.tableaux.proofs.Hanging.{Going, going_past, going_on, hang_laws}
use Rattle.tableaux.proofs.tableau.hang.Statement.{statement}
use Rattle.tableaux.proofs.tableau.hang.Tie as tie

ruleset all = (rules, hang_laws)

abbrev invariant-loop : tie.invariant-loop-left
invariant-loop file work₀ start copy entered count parent rest leaves offset₀ left₀ work offset left =
    Going file start copy entered parent rest leaves work₀ work offset left

abbrev decreases-loop : tie.decreases-loop-left
decreases-loop file work₀ start copy entered count parent rest leaves offset₀ left₀ work offset left = 256 - offset

pub hang_spec : {M : Type 1} → statement M
hang_spec =
    tie.close
    (tie.spec
    invariant-loop
    decreases-loop
    (λ c. search all)
    (λ c κs. search all)
    (λ c κs. search all)
    (λ c. search all)
    (λ c. search all)
    (λ c. search all)
    (λ c. search all)
    (λ c κs. search all)
    (λ c. search all)
    (λ c. going_past c.loop-left.invariant c.loop-left-test.true c.wide.ensures c.wide-in-loop-left.ensures c.hangs.ensures c.if-not-hangs.true)
    (λ c. search all)
    (λ c. search all)
    (λ c. search all)
    (λ c. search all)
    (λ c κs. search all)
    (λ c κs. search all)
    (λ c. search all)
    (λ c. let turn = c in going_on turn.loop-left.invariant turn.loop-left-test.true c.wide.ensures c.wide-in-loop-left.ensures c.hangs.ensures c.if-not-hangs.false c.next_of.ensures c.note.ensures)
    (λ c. search all)
    (λ c. search all))
