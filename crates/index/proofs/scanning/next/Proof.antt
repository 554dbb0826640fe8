use borrow.Author.Rules.{rules}
use Prim.Native.Nat.{◌-◌}
use Rattle.index.proofs.Sought.{Sought, sought_begin, sought_done, sought_reads, sought_small, sought_found, sought_low, sought_less, sought_on}
use Rattle.index.proofs.scanning.next.Statement.{statement}
use Rattle.index.proofs.scanning.next.Tie as tie

ruleset all = (rules, sought_begin, sought_done, sought_reads, sought_small, sought_found, sought_low, sought_less, sought_on)

abbrev invariant-loop : tie.invariant-loop-scan
invariant-loop file body wanted scan₀ scan = Sought file body wanted scan₀ scan

abbrev decreases-loop : tie.decreases-loop-scan
decreases-loop file body wanted scan₀ scan = body - scan.at

pub next_spec : {M : Type 1} → statement M
next_spec =
    tie.close
    (tie.spec
    invariant-loop
    decreases-loop
    (λ c. search all)
    (λ c κs. search all)
    (λ c. search all)
    (λ c. search all)
    (λ c. search all)
    (λ c κs. search all)
    (λ c κs. search all)
    (λ c. search all)
    (λ c. search all)
    (λ c. search all))
