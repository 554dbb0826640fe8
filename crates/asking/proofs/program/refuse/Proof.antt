use borrow.Author.Rules.{rules}
use Rattle.asking.proofs.Writes.{refusal_writes}
use Rattle.asking.proofs.program.refuse.Statement.{statement}
use Rattle.asking.proofs.program.refuse.Tie as tie

ruleset all = (rules, refusal_writes)

pub refuse_spec : {M : Type 1} → statement M
refuse_spec =
    tie.close
    (tie.spec
    (λ c κs. search all)
    (λ c. search all)
    (λ c. search all))
