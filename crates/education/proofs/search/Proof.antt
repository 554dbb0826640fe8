use borrow.Author.Rules.{rules}
use mathlib.Core.Path.{◌∙◌, ap}
use Rattle.hukolearu.specs.Calls.{Given, search_with, at_front}
use Rattle.education.proofs.Telling.{base_search}
use Rattle.education.proofs.search.Statement.{statement}
use Rattle.education.proofs.search.Tie as tie

returns : tie.Need-returns
returns c =
    let a = c.args in
    let e = base_search (search_with a.file.now a.bound a.budget a.proof.now a.answer.now a.work.now) in
    let x = c.search_by.ensures in
    (x.0 ∙ ap (λ (g : Given). g.outcome) e, (x.1.0 ∙ ap (λ (g : Given). at_front g.proof a.proof.now) e, (x.1.1.0 ∙ ap (λ (g : Given). at_front g.answer a.answer.now) e, x.1.1.1)))

pub search_spec : {M : Type 1} → statement M
search_spec = tie.close (tie.spec (λ c κs. search rules) (λ c. search rules) (λ c. search rules) (λ c. search rules) returns)
