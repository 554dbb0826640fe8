use borrow.Author.Rules.{rules}
use Rattle.hukolearu.proofs.CallsTold.{answer_laws}
use Rattle.hukolearu.proofs.calls.granted.Statement.{statement}
use Rattle.hukolearu.proofs.calls.granted.Tie as tie

ruleset all = (rules, answer_laws)

pub granted_spec : {M : Type 1} → statement M
granted_spec = tie.close (tie.spec (λ c κs. search all) (λ c. search all) (λ c. search all) (λ c. search all))
