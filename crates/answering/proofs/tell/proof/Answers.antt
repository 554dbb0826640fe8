use borrow.Author.Rules.{rules}
use Rattle.answering.proofs.Telling.{no_proof, proof_cut}
use Rattle.answering.proofs.tell.proof.Goals as goal

pub returns-then-not-wanted : goal.returns-then-not-wanted
returns-then-not-wanted c = search (rules, no_proof)

pub returns : goal.returns
returns c = proof_cut _ _ (search rules) c.filled-page.ensures.sized c.proof-n.ensures c.bytes-next.ensures c.cut.ensures
