use mathlib.Core.Bool.{not}
use mathlib.Core.Path.{ap}
use borrow.Author.Rules.{rules}
use Rattle.bound_literals.proofs.Slots.{replayed_not, replayed_good, replayed_slots}
use Rattle.bound_literals.proofs.call.written.Statement.{statement}
use Rattle.bound_literals.proofs.call.written.Tie as tie

ruleset all = (rules, replayed_not, replayed_good, replayed_slots)

pub written_spec : {M : Type 1} → statement M
written_spec =
    tie.close
    (tie.spec
    (λ c κs. search all)
    (λ c. search all)
    (λ c. replayed_not c.replay.ensures (ap not c.if-not-replay.true) _)
    (λ c κs. replayed_good c.replay.ensures (ap not c.if-not-replay.false))
    (λ c. search all)
    (λ c. search all)
    (λ c. replayed_slots c.replay.ensures (ap not c.if-not-replay.false) c.slots.ensures))
