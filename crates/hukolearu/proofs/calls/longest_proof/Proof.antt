use borrow.Author.Rules.{rules}
use Rattle.hukolearu.proofs.CallsTold.{longest_laws}
use Rattle.hukolearu.proofs.calls.longest_proof.Statement.{statement}
use Rattle.hukolearu.proofs.calls.longest_proof.Tie as tie

ruleset all = (rules, longest_laws)

pub longest_proof_spec : {M : Type 1} → statement M
longest_proof_spec = tie.close (tie.spec (λ c. search all) (λ c. search all))
