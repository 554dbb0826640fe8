use lib.ListN.{length}
use Prim.Native.Nat.{◌-◌}
use native.Mathlib.Omega.{arith}
use borrow.Author.Rules.{rules}
use Rattle.season.proofs.Tallying.{Tallying, tally_begin, tally_done, four_more, few_enough, tally_next}
use Rattle.season.proofs.ask_all.Statement.{statement}
use Rattle.season.proofs.ask_all.Tie as tie

abbrev invariant-loop : tie.invariant-loop-at
invariant-loop table begun entries list file₀ proof₀ answer₀ work₀ report₀ at₀ file proof answer work report at =
    Tallying table entries list proof₀ answer₀ begun file proof answer work report at

abbrev decreases-loop : tie.decreases-loop-at
decreases-loop table begun entries list file₀ proof₀ answer₀ work₀ report₀ at₀ file proof answer work report at = length entries - at

loop-holds : tie.Need-loop-at-init invariant-loop decreases-loop
loop-holds c = tally_begin c.args.list.now c.requires.0 c.requires.1 c.requires.2 c.refused-report.ensures

ask-entry-requires : tie.Need-ask_entry-ended-requires invariant-loop decreases-loop
ask-entry-requires c κs = (c.loop-at.invariant.tabled, c.loop-at.invariant.lent, four_more c.loop-at.invariant c.loop-at-test.true)

counting-requires : tie.Need-counting-report-requires invariant-loop decreases-loop
counting-requires c κs = few_enough c.loop-at.invariant c.loop-at-test.true

loop-again : tie.Need-loop-at-preserved invariant-loop decreases-loop
loop-again c =
    tally_next c.loop-at.invariant c.loop-at-test.true c.ask_entry-ended.ensures.0 c.ask_entry-ended.ensures.1 (omega arith) (omega arith) (omega arith) (omega arith) c.counting-report.ensures

pub ask_all_spec : {M : Type 1} → statement M
ask_all_spec =
    tie.close
    (tie.spec
    invariant-loop
    decreases-loop
    (λ c κs. search rules)
    loop-holds
    ask-entry-requires
    counting-requires
    (λ c. search rules)
    (λ c. omega arith)
    loop-again
    (λ c. search rules)
    (λ c. search rules)
    (λ c. search rules)
    (λ c. search rules)
    (λ c. tally_done c.loop-at.invariant (omega arith)))
