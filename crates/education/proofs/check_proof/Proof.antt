use borrow.Author.Rules.{rules}
use mathlib.Core.Path.{◌∙◌, ap}
use Rattle.hukolearu.specs.Calls.{Given, check_with, at_front}
use Rattle.education.proofs.Telling.{base_check}
use Rattle.education.proofs.check_proof.Statement.{statement}
use Rattle.education.proofs.check_proof.Tie as tie

returns : tie.Need-returns
returns c =
    let a = c.args in
    let e = base_check (check_with a.file.now a.bound a.offered.now a.answer.now a.work.now) in
    let x = c.check_by.ensures in
    (x.0 ∙ ap (λ (g : Given). g.outcome) e, (x.1.0 ∙ ap (λ (g : Given). at_front g.answer a.answer.now) e, x.1.1))

pub check_proof_spec : {M : Type 1} → statement M
check_proof_spec = tie.close (tie.spec (λ c κs. search rules) (λ c. search rules) (λ c. search rules) returns)
