-- The check is made with no room for an answer; what it refuses is refused, and what it accepts is counted and listed.
use borrow.Author.Rules.{rules}
use mathlib.Core.Path.{refl}
use native.Mathlib.Omega.{arith}
use Rattle.clauselines.proofs.Calls.{none_written}
use Rattle.listing.specs.Call.{listing_with}
use Rattle.listing.proofs.Telling.{not_accepted, proof_short, file_long, file_ready, told_listed}
use Rattle.listing.proofs.call.listing.Statement.{statement}
use Rattle.listing.proofs.call.listing.Tie as tie

returns : tie.Need-returns-then-not-accepts
returns c =
    let a = c.args in let asks = listing_with a.file.now a.bound a.offered.now a.listing.now a.work.now in
    let t = none_written (not_accepted asks c.check_proof-outcome.ensures.0 c.accepts.ensures (rw c.if-not-accepts.true)) c.refused.ensures in
    (t.0, (t.1, c.check_proof-outcome.ensures.1.1))

count-requires : tie.Need-count-requires
count-requires c κs =
    let a = c.args in let asks = listing_with a.file.now a.bound a.offered.now a.listing.now a.work.now in
    (proof_short asks c.check_proof-outcome.ensures.0 c.accepts.ensures (rw c.if-not-accepts.false), refl)

sub_wide : tie.Need-overflow_sub-file
sub_wide c =
    let a = c.args in let asks = listing_with a.file.now a.bound a.offered.now a.listing.now a.work.now in
    omega (arith, file_long asks c.check_proof-outcome.ensures.0 c.accepts.ensures (rw c.if-not-accepts.false))

shared-slice-read-wide : tie.Need-bounds-file-file
shared-slice-read-wide c =
    let a = c.args in let asks = listing_with a.file.now a.bound a.offered.now a.listing.now a.work.now in
    omega (arith, file_long asks c.check_proof-outcome.ensures.0 c.accepts.ensures (rw c.if-not-accepts.false))

listed-requires : tie.Need-listed-requires
listed-requires c κs =
    let a = c.args in let asks = listing_with a.file.now a.bound a.offered.now a.listing.now a.work.now in
    (file_ready asks c.check_proof-outcome.ensures.0 c.accepts.ensures (rw c.if-not-accepts.false) c.shared_slice_known-1.given refl c.wide-question.ensures, c.count.ensures.counters)

returns-2 : tie.Need-returns
returns-2 c =
    let a = c.args in let asks = listing_with a.file.now a.bound a.offered.now a.listing.now a.work.now in
    let t = told_listed asks c.check_proof-outcome.ensures.0 c.accepts.ensures (rw c.if-not-accepts.false) c.shared_slice_known-1.given refl c.wide-question.ensures c.count.ensures a.listing.now c.listed.ensures.0 c.listed.ensures.1 in
    (t.0, (t.1, c.check_proof-outcome.ensures.1.1))

pub listing_spec : {M : Type 1} → statement M
listing_spec =
    tie.close
    (tie.spec
    (λ c. search rules)
    (λ c κs. search rules)
    (λ c κs. search rules)
    (λ c κs. search rules)
    (λ c. search rules)
    returns
    (λ c. search rules)
    count-requires
    sub_wide
    (λ c. search rules)
    shared-slice-read-wide
    (λ c κs. search rules)
    (λ c. search rules)
    listed-requires
    (λ c. search rules)
    (λ c. search rules)
    returns-2)
