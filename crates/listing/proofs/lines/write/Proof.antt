use borrow.Author.Rules.{rules}
use Prim.Native.Nat.{◌-◌}
use Rattle.listing.proofs.Writing.{Writing, write_laws}
use Rattle.listing.proofs.lines.write.Statement.{statement}
use Rattle.listing.proofs.lines.write.Tie as tie

ruleset all = (rules, write_laws)

abbrev invariant-loop : tie.invariant-loop-next
invariant-loop file question copies out₀ number₀ next₀ end₀ out number next end = Writing file copies out₀ number next end out

abbrev decreases-loop : tie.decreases-loop-next
decreases-loop file question copies out₀ number₀ next₀ end₀ out number next end = question - next

pub write_spec : {M : Type 1} → statement M
write_spec =
    tie.close
    (tie.spec
    invariant-loop
    decreases-loop
    (λ c. search all)
    (λ c κs. search all)
    (λ c. search all)
    (λ c. search all)
    (λ c. search all)
    (λ c. search all)
    (λ c. search all)
    (λ c. search all)
    (λ c. search all)
    (λ c. search all)
    (λ c. search all)
    (λ c. search all)
    (λ c. search all)
    (λ c. search all)
    (λ c κs. search all)
    (λ c. search all)
    (λ c. search all)
    (λ c κs. search all)
    (λ c. search all)
    (λ c. search all)
    (λ c. search all)
    (λ c. search all)
    (λ c. search all)
    (λ c. search all)
    (λ c. search all)
    (λ c. search all)
    (λ c κs. search all)
    (λ c. search all)
    (λ c. search all))
