use mathlib.Core.Bool.{not}
use mathlib.Core.Path.{ap}
use lib.ListN.{length}
use Prim.Native.Nat.{◌-◌}
use borrow.Author.Rules.{rules}
use native.Mathlib.Omega.{arith}
use Rattle.desk.proofs.Looking.{Looks, look_on, look_laws}
use Rattle.desk.proofs.intake.words_in_range.Statement.{statement}
use Rattle.desk.proofs.intake.words_in_range.Tie as tie

ruleset all = (rules, look_laws)

abbrev invariant-loop : tie.invariant-loop-i
invariant-loop words i₀ i = Looks words i

abbrev decreases-loop : tie.decreases-loop-i
decreases-loop words i₀ i = length words - i

pub words_in_range_spec : {M : Type 1} → statement M
words_in_range_spec =
    tie.close
    (tie.spec
    invariant-loop
    decreases-loop
    (λ c. search all)
    (λ c. search all)
    (λ c. search all)
    (λ c. search all)
    (λ c. search all)
    (λ c. search all)
    (λ c. search all)
    (λ c. search all)
    (λ c. search all)
    (λ c. search all)
    (λ c κs. search all)
    (λ c. search all)
    (λ c. search all)
    (λ c. search all)
    (λ c. look_on c.loop-i.invariant (omega arith) c.record_in_range.ensures (ap not c.if-not-record_in_range.false))
    (λ c. search all))
